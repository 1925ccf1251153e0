-- What the text of fresh settings says.
use Rattle.std.proofs.Common.{◌≡◌, ℕ, List, Bool, true, false, refl, sym, subst, ◌∙◌}
use Rattle.std.specs.Prelude.{◌&&◌, not}
use Rattle.std.specs.Str.{bytes_eq}
use Rattle.std.proofs.lemmas.Slice.Eq.{bytes_eq-Decides}
use Rattle.rows_cell.specs.Settings.{Settled}
use Rattle.scripts.specs.Said.{AreSaid}
use Rattle.cellctl.specs.Secrets.{known_secret, SaysSecret}

halves : (a b : Bool) → (a && not b) ≡ true → (a ≡ true) × (b ≡ false)
halves true false h = (refl, refl)
halves true true h = absurd (cc)
halves false b h = absurd (cc)

-- the text that was read is that which was made
pub says_secret : (settings : Settled) (secret text read : List ℕ) (is : Bool) → read ≡ text → AreSaid read settings → is ≡ (bytes_eq settings.secret secret && not (bytes_eq settings.secret known_secret)) → is ≡ true → SaysSecret secret text
says_secret settings secret text read is made says told held =
    let h = halves (bytes_eq settings.secret secret) (bytes_eq settings.secret known_secret) (sym told ∙ held) in
    let same : settings.secret ≡ secret = (bytes_eq-Decides settings.secret secret).0 h.0 in
    let apart : settings.secret ≡ known_secret → bytes_eq settings.secret known_secret ≡ true = (bytes_eq-Decides settings.secret known_secret).1 in
    let other : bytes_eq settings.secret known_secret ≡ false = h.1 in
    record {
      settings = settings;
      says = subst (λ t. AreSaid t settings) made says;
      same = same;
      unknown = λ known. let t : bytes_eq settings.secret known_secret ≡ true = apart (same ∙ known) in absurd (cc);
    }

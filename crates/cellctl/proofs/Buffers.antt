-- What a reader with a buffer has left.
use Rattle.std.proofs.Common.{◌≡◌, ℕ, List, [], Option, None, ap, ◌∙◌}
use Rattle.std.specs.Prelude.{if◌then◌else◌, ◌==◌}
use Rattle.std.specs.Io.Buffered.{reader_inner, reader_buffer, reader_capacity, reader_remaining}
use Rattle.std.specs.Io.KnownBytes.{prepend_known}
use Rattle.std.proofs.KnownBytes.{prepend_known-nil}
use Rattle.std.specs.declared.io.buffered.BufReader.{BufReader}

-- nothing was read yet: it has all that is behind it
pub remaining_of : {T A : Type 0} (remaining : T → Option (List ℕ)) (r : BufReader T A) (inner : T) → reader_inner r ≡ inner → reader_buffer r ≡ [] → reader_capacity r ≡ 65536
    → reader_remaining remaining r ≡ remaining inner
remaining_of {T = T} remaining r inner is empty room =
    let known : Option (List ℕ) = prepend_known (reader_buffer r) (remaining r.inner) in
    ap (λ (n : ℕ). if n == 0 then None else known) room ∙ ap (λ (bs : List ℕ). prepend_known bs (remaining r.inner)) empty ∙ prepend_known-nil (remaining r.inner) ∙ ap remaining is

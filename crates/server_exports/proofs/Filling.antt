-- A room that was filled by equal bytes.
use Rattle.std.proofs.Common.{◌≡◌, ℕ, List, subst}
use Rattle.server_exports.specs.Codes.{Fills}

pub filled_by : (xs ys before after : List ℕ) → xs ≡ ys → Fills xs before after → Fills ys before after
filled_by xs ys before after same filled =
    let P : List ℕ → Type 0 = λ u. Fills u before after in
    subst P same filled

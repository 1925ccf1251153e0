-- A row that isn't that of the cell says nothing.
use Rattle.std.proofs.Common.{◌≡◌, ℕ, Bool, true, false, List, Option, None, refl, true≢false}
use Rattle.rows_sql.specs.Decode.{meta_from}

pub none_said : (b : Bool) (e o p : Option ℕ) (s c : Option (List ℕ)) → b ≡ false → None ≡ meta_from b e o p s c
none_said true e o p s c is = absurd (true≢false is)
none_said false e o p s c is = refl

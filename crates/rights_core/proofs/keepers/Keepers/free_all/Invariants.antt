use Rattle.std.proofs.Common.{◌≡◌, ℕ, List}
use Rattle.rights_core.specs.declared.endings.Ending.TheVariants as endings
use Rattle.rights_core.specs.Indexes.{number_in, freed}
use Rattle.rights_core.proofs.keepers.Keepers.free_all.Given as goal

abbrev pub invariant-loop-right : goal.invariant-loop-right
invariant-loop-right l = (other : ℕ) (theirs : List ℕ) → freed l.client endings.Expiry l.right-iterator other theirs (number_in other theirs l.self) ≡ freed l.client endings.Expiry l.rights other theirs (number_in other theirs l.fn.self)

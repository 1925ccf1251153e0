-- What asking for names leaves as it is.
use Rattle.std.proofs.Common.{◌≡◌, ℕ, List, [], ◌∷◌, refl}
use Rattle.master_state.specs.State.{MasterState}
use Rattle.cell_core.specs.Step.{asking, asking_for}

-- all but the rights and the sessions
pub asks_only : (names : List (List ℕ)) (s : MasterState) → asking_for s names ≡ record s { rights = (asking_for s names).rights; sessions = (asking_for s names).sessions }
asks_only [] s = refl
asks_only (name ∷ names) s = asks_only names (asking s name)

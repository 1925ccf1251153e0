-- What a script did over rows in lists.
use Rattle.std.specs.Prelude.{◌≡◌, ◌⊎◌, ℕ, List, [], ◌∷◌, Option}
use Rattle.rows_cell.specs.Settings.{standard, terms_of}
use Rattle.rows_cell.specs.Opening.{opening}
use Rattle.rows_cell.specs.Stores.{Store}
use Rattle.world_steps.specs.World.{opened}
use Rattle.scripts.specs.Ran.{RunsSurely}

-- a store of a new cell with the standard settings: nothing was refused, nothing is in doubt
abbrev pub new_store : Store
new_store = record { cell = standard.cell; rows = opening standard; may_leave = opening standard ∷ []; refusals = 0; doubt = 0 }

-- with this status a script ended over it, and all laws of runs hold; or memory ran out before, and nothing was written
abbrev pub Runs : ℕ → Option (List ℕ) → Option (List ℕ) → Option (List ℕ) → Type 0
Runs status text before after = RunsSurely status text (opened new_store (terms_of standard)) before after ⊎ ((status ≡ 4) × (after ≡ before))

-- The turns of calls over whole runs.
use Rattle.std.specs.Prelude.{◌≡◌, ℕ, ◌<◌, ◌≤◌, List, [], ◌∷◌, ◌++◌, length}
use Rattle.std.specs.Option.{option_map_or}
use Rattle.node_core.specs.declared.lines.Line.{Line}
use Rattle.world_steps.specs.declared.steps.Step.{Step}
use Rattle.world_steps.specs.World.{WorldState, WorldView}
use Rattle.world_cell.specs.Consistent.{waiting}
use Rattle.world_cell.specs.Runs.{Run}

-- the numbers of a client's calls that wait for their turn
abbrev pub waits_in : WorldState → ℕ → List ℕ
waits_in w client = option_map_or (λ master. waiting client master.gate.waiting) w.master []

-- over any steps, whatever the calls and whichever masters were up: of a client at most one call waits, and once a call waits no longer, since it had its turn or the master is gone, each call of its client that waits later has a greater number
pub record HaveOneTurn (old : WorldView) (steps : List Step) (new : WorldView) : Type 0 where
  pub alone : (front rest : List Step) (here : WorldView) (before after : List Line) (client : ℕ) → steps ≡ front ++ rest → Run old front before here → Run here rest after new → length (waits_in here.world client) ≤ 1
  pub rises : (front part rest : List Step) (step : Step) (here next later : WorldView) (before told between after : List Line) (client number later_number : ℕ) → steps ≡ front ++ step ∷ part ++ rest
      → Run old front before here → Run here (step ∷ []) told next → Run next part between later → Run later rest after new
      → waits_in here.world client ≡ number ∷ [] → waits_in next.world client ≡ [] → waits_in later.world client ≡ later_number ∷ [] → number < later_number

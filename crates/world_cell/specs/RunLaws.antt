-- What holds of every run.
use Rattle.std.specs.Prelude.{◌≡◌, ℕ, ◌≤◌, List, ◌∷◌, ◌++◌, Some}
use Rattle.node_core.specs.declared.lines.Line.{Line}
use Rattle.node_core.specs.declared.lines.Line.TheVariants as lines
use Rattle.node_core.specs.declared.views.Mod.{Mod}
use Rattle.rows_cell.specs.Rows.{map_of}
use Rattle.rows_cell.specs.Sound.{is_live_in}
use Rattle.world_steps.specs.declared.steps.Step.{Step}
use Rattle.world_steps.specs.World.{WorldView, IsUndoubted}
use Rattle.world_cell.specs.Runs.{AnyRun, map_at, after_lines, epoch_at, live_at, LeasesKeepSessions, AreJoint, KeepsClocksFair, AreRecordedOnce, applied, Rises, IsOfCall, IsOfIdle}
use Rattle.world_cell.specs.Served.{ServesPresentByThen}
use Rattle.world_cell.specs.Locks.{HasLegalLocks, NoGenerationTwice, HoldsRise}
use Rattle.world_cell.specs.HeldLocks.{TellsOfLocks}
use Rattle.world_cell.specs.HolderSteps.{StepsTellOfHolders}
use Rattle.world_cell.specs.Told.{ShowsNoOlder}
use Rattle.world_cell.specs.Limits.{StaysWithinLimits}
use Rattle.world_cell.specs.Turns.{HaveOneTurn}

-- of a run in which nothing is in doubt; each as the clause of its name at the method `run` of a world says it
pub record HoldsOfRun (old : WorldView) (steps : List Step) (printed : List Line) (new : WorldView) : Type 0 where
  pub map : map_of new.world.rows ≡ map_at (map_of old.world.rows) printed
  pub fits : after_lines (map_of old.world.rows) printed ≡ Some (map_of new.world.rows)
  pub epoch : new.world.rows.epoch ≡ epoch_at old.world.rows.epoch printed
  pub turns : HaveOneTurn old steps new
  pub once : (client : ℕ) → 1 ≤ client → Rises (applied client printed)
  pub calls : (before rest : List Line) (client number : ℕ) (change : Mod) (names : List (List ℕ)) → printed ≡ before ++ lines.Applied client number change names ∷ rest → 1 ≤ client
      → IsOfCall old steps before client number change names rest new
  pub own : (before rest : List Line) (number : ℕ) (change : Mod) (names : List (List ℕ)) → printed ≡ before ++ lines.Applied 0 number change names ∷ rest → IsOfIdle old steps before number change names rest new
  pub sessions : (client : ℕ) → is_live_in new.world.rows client ≡ live_at client (is_live_in old.world.rows client) printed
  pub rights : AreRecordedOnce old.world printed new.world
  pub served : ServesPresentByThen (map_of old.world.rows) printed
  pub leases : LeasesKeepSessions new.world
  pub joint : AreJoint new.world
  pub clocks : KeepsClocksFair old steps new
  pub locks : HasLegalLocks old.world new.world
  pub generations : NoGenerationTwice old steps new
  pub fencing : HoldsRise old steps new
  pub held : TellsOfLocks old.world.rows new.world.rows printed
  pub holders : StepsTellOfHolders old steps new
  pub told : ShowsNoOlder old steps new
  pub limits : StaysWithinLimits old.world new.world

-- every run that begins with this world, and after which nothing is in doubt
abbrev pub HoldsOfRuns : WorldView → Type 0
HoldsOfRuns old = (steps : List Step) (printed : List Line) (new : WorldView) → AnyRun old steps printed new → IsUndoubted new → HoldsOfRun old steps printed new

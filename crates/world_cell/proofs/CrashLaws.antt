-- What holds of every run that begins after a crash.
use Rattle.std.proofs.Common.{◌≡◌, ℕ, List, ◌∷◌, Some, arith, refl}
use Rattle.node_core.specs.declared.lines.Line.{Line}
use Rattle.rows_cell.specs.declared.tables.Rows.{Rows}
use Rattle.world_steps.specs.declared.steps.Step.{Step}
use Rattle.world_steps.specs.World.{WorldView, IsUndoubted}
use Rattle.world_steps.specs.Crash.{left_at, crashed}
use Rattle.world_cell.specs.Consistent.{IsConsistent}
use Rattle.world_cell.specs.Crashes.{HoldsBehindCrashes}
use Rattle.world_cell.specs.Left.{EachIsLeft}
use Rattle.world_cell.specs.Runs.{AnyRun}
use Rattle.world_cell.proofs.CrashRuns.{crashes_doubt, crashes_keep}
use Rattle.world_cell.proofs.LawsOfRuns.{runs_hold}
use Rattle.world_cell.proofs.LeftKept.{left_is_in}

pub crashes_hold : (old : WorldView) → (IsUndoubted old → IsConsistent old.world) → (IsUndoubted old → EachIsLeft old) → HoldsBehindCrashes old
crashes_hold old fits each runs printed here r sure =
    let rises = crashes_doubt old runs printed here r in
    let undoubted : old.doubt ≡ 0 = omega (arith, rises, sure) in
    runs_hold here (λ none. (crashes_keep old runs printed here (record { consistent = fits undoubted; left = each undoubted }) r sure).consistent)

-- and so it is behind each of these crashes
pub behind_crash : (old : WorldView) (steps : List Step) (told : List Line) (mid : WorldView) (number : ℕ) (rows : Rows) → HoldsBehindCrashes old → AnyRun old steps told mid → left_at mid.may_leave number ≡ Some rows → HoldsBehindCrashes (crashed mid rows)
behind_crash old steps told mid number rows laws run at runs printed here r sure =
    laws (steps ∷ runs) (told ∷ printed) here (mid, told, printed, rows, run, left_is_in number mid.may_leave rows at, r, refl) sure

-- What a crash leaves where a commit was refused before, and runs on both sides of it.
use Rattle.std.specs.Prelude.{◌≡◌, List, [], ◌∷◌}
use Rattle.coherence.specs.Slice.{IsIn}
use Rattle.node_core.specs.declared.lines.Line.{Line}
use Rattle.rows_cell.specs.declared.tables.Rows.{Rows}
use Rattle.world_steps.specs.declared.steps.Step.{Step}
use Rattle.world_steps.specs.World.{WorldView, IsUndoubted}
use Rattle.world_steps.specs.Crash.{crashed}
use Rattle.world_cell.specs.RunLaws.{HoldsOfRuns}
use Rattle.world_cell.specs.Runs.{AnyRun}

-- runs one after the other, with a crash after each, which leaves one of the rows that it may
abbrev pub CrashedRuns : WorldView → List (List Step) → List (List Line) → WorldView → Type 0
CrashedRuns old [] printed new = (printed ≡ []) × (new ≡ old)
CrashedRuns old (steps ∷ others) printed new =
    (mid : WorldView) × (here : List Line) × (rest : List (List Line)) × (rows : Rows) × AnyRun old steps here mid × IsIn rows mid.may_leave × CrashedRuns (crashed mid rows) others rest new × (printed ≡ here ∷ rest)

-- after any such runs all that holds of runs holds of each that begins there
abbrev pub HoldsBehindCrashes : WorldView → Type 0
HoldsBehindCrashes old =
    (runs : List (List Step)) (printed : List (List Line)) (here : WorldView) → CrashedRuns old runs printed here → IsUndoubted here → HoldsOfRuns here

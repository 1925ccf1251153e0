use Rattle.std.proofs.Common.{take}
use Rattle.world_cell.specs.Runs.{AnyRun}
use Rattle.world_cell.proofs.worlds.World.run.Given as goal

-- the steps so far were run
abbrev pub invariant-loop-step : goal.invariant-loop-step
invariant-loop-step g l = AnyRun l.fn.self (take l.step-index l.steps) l.lines l.self

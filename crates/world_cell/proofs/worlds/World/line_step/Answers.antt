use Rattle.world_cell.proofs.PartsOfRuns.{line_refused, line_lost}
use Rattle.world_cell.proofs.worlds.World.line_step.Goals as goal

pub returns-in-Err-clause-err : goal.returns-in-Err-clause-err
returns-in-Err-clause-err g c = line_lost c.refused.result c.args.self.now c.step-told.new.self c.args.step.now c.in-Err.fault c.in-Err.ensures.refused

pub returns-in-Err-clause-ok : goal.returns-in-Err-clause-ok
returns-in-Err-clause-ok g c = line_refused c.refused.result c.args.self.now c.step-told.new.self c.args.step.now c.in-Err.fault c.refused.ensures c.in-Err.ensures.refused

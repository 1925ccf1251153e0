use Rattle.watch_cell.proofs.StepFacts.{take_tells, take_not_full, swept_tells_so, swept_not_full, take_refused, swept_refused}
use Rattle.watch_cell.proofs.steps.step_thrice.Goals as goal

pub returns-in-Err-clause-fault : goal.returns-in-Err-clause-fault
returns-in-Err-clause-fault g c = take_not_full _ _ _ _ c.in-Err.ensures.fault

pub returns-in-Ok-clause-tells : goal.returns-in-Ok-clause-tells
returns-in-Ok-clause-tells g c = take_tells c.args.cell.now c.take_thrice.new.self _ _ _ c.kept.ensures c.in-Ok.ensures.ok

pub returns-in-Sweep-clause-tells : goal.returns-in-Sweep-clause-tells
returns-in-Sweep-clause-tells g c = swept_tells_so c.args.cell.now c.sweep_thrice.new.self _ c.sweep_thrice.result c.kept.ensures c.sweep_thrice.ensures.ok

pub returns-in-Sweep-clause-fault : goal.returns-in-Sweep-clause-fault
returns-in-Sweep-clause-fault g c = swept_not_full c.args.cell.now c.sweep_thrice.new.self _ c.sweep_thrice.result c.sweep_thrice.ensures.fault

pub returns-in-Err-clause-refusal : goal.returns-in-Err-clause-refusal
returns-in-Err-clause-refusal g c = take_refused c.args.cell.now c.take_thrice.new.self c.args.event.now _ _ _ c.in-Take.is c.in-Err.ensures.err c.in-Err.ensures.fault

pub returns-in-Sweep-clause-refusal : goal.returns-in-Sweep-clause-refusal
returns-in-Sweep-clause-refusal g c = swept_refused c.args.cell.now c.sweep_thrice.new.self c.args.event.now _ c.sweep_thrice.result c.in-Sweep.is c.sweep_thrice.ensures.fault

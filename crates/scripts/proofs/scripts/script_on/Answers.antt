use Rattle.scripts.proofs.RunsOf.{all_written, ends_well, stops_well, sure_end}
use Rattle.scripts.proofs.scripts.script_on.Goals as goal

pub returns-in-Ok-clause-written : goal.returns-in-Ok-clause-written
returns-in-Ok-clause-written g c = λ none. all_written _ c.args.world.now _ _ _ c.in-Ok.ensures

pub returns-in-Ok-clause-ran : goal.returns-in-Ok-clause-ran
returns-in-Ok-clause-ran g c = ends_well _ c.args.world.now _ c.runs_hold.ensures _ _ c.in-Ok.ensures

pub returns-in-Ok-clause-sure : goal.returns-in-Ok-clause-sure
returns-in-Ok-clause-sure g c = λ none. sure_end _ c.args.world.now _ none _ _ _ (ends_well _ c.args.world.now _ c.runs_hold.ensures _ _ c.in-Ok.ensures)

pub returns-clause-ran : goal.returns-clause-ran
returns-clause-ran g c = stops_well _ c.args.world.now _ c.runs_hold.ensures _ _ c.status.result c.in-Err.stop c.status.ensures c.in-Err.ensures

pub returns-clause-sure : goal.returns-clause-sure
returns-clause-sure g c = λ none. sure_end _ c.args.world.now _ none _ _ _ (stops_well _ c.args.world.now _ c.runs_hold.ensures _ _ c.status.result c.in-Err.stop c.status.ensures c.in-Err.ensures)

use Rattle.watch_cell.proofs.Calls.{retires_so}
use Rattle.watch_cell.proofs.watches.take_in.Goals as goal

pub returns-clause-ok : goal.returns-clause-ok
returns-clause-ok g c = retires_so g.O.Opening.opening c.args.locked.now c.take_in-taken.new.self c.args.pass c.take_in-taken.result c.kept.ensures c.kept-2.ensures c.take_in-taken.ensures.ok

use Rattle.watch_cell.proofs.Calls.{calls_so, refused_so}
use Rattle.watch_cell.proofs.watches.serve_one.Goals as goal

pub returns-clause-ok : goal.returns-clause-ok
returns-clause-ok g c = calls_so g.O.Opening.opening c.args.locked.now c.serve-served.new.locked c.args.pass.now c.serve-served.new.pass c.args.event c.serve-served.result c.kept.ensures c.kept-2.ensures c.serve-served.ensures.ok

pub returns-clause-refusal : goal.returns-clause-refusal
returns-clause-refusal g c = refused_so g.O.Opening.opening c.args.locked.now c.serve-served.new.locked c.args.event c.serve-served.result c.kept.ensures c.kept-2.ensures c.serve-served.ensures.refusal

use Rattle.sqlite.specs.Held.{state}
use Rattle.rows_sql.proofs.WriteSteps.{ok_then}
use Rattle.rows_sql.proofs.Creates.{makes_view, adds_view}
use Rattle.rows_sql.proofs.writing.creation.make_view.Goals as goal

pub returns-clause-ok : goal.returns-clause-ok
returns-clause-ok g c clean = ok_then c.run.result (makes_view (state g.S.Store c.args.tx.now.conn.now) (state g.S.Store c.run.new.tx.conn.now)) (c.run.ensures.ok clean)

pub returns-clause-adds : goal.returns-clause-adds
returns-clause-adds g c clean = ok_then c.run.result (adds_view (state g.S.Store c.args.tx.now.conn.now) (state g.S.Store c.run.new.tx.conn.now)) (c.run.ensures.ok clean)

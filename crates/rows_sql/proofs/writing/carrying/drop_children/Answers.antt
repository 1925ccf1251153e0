use Rattle.sqlite.specs.Held.{state}
use Rattle.rows_sql.proofs.WriteSteps.{ok_then}
use Rattle.rows_sql.proofs.Carried.{drops_children}
use Rattle.rows_sql.proofs.writing.carrying.drop_children.Goals as goal

pub returns-clause-ok : goal.returns-clause-ok
returns-clause-ok g c clean = ok_then c.run.result (drops_children (state g.S.Store c.args.tx.now.conn.now) (state g.S.Store c.run.new.tx.conn.now)) (c.run.ensures.ok clean)

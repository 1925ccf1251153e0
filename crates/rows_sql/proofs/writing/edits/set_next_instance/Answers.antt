use Rattle.sqlite.specs.Held.{state}
use Rattle.rows_sql.proofs.WriteSteps.{ok_then}
use Rattle.rows_sql.proofs.NumbersSaid.{next_done}
use Rattle.rows_sql.proofs.writing.edits.set_next_instance.Goals as goal

pub returns-clause-ok : goal.returns-clause-ok
returns-clause-ok g c clean =
    ok_then c.run.result (next_done c.in_ok-next.next c.args.next c.in_ok-next.ensures (state g.S.Store c.args.tx.now.conn.now) (state g.S.Store c.run.new.tx.conn.now)) (c.run.ensures.ok clean)

use Rattle.sqlite.specs.Held.{state}
use Rattle.rows_sql.proofs.WriteSteps.{ok_then}
use Rattle.rows_sql.proofs.NumbersSaid.{ended_done}
use Rattle.rows_sql.proofs.writing.edits.set_ended_below.Goals as goal

pub returns-clause-ok : goal.returns-clause-ok
returns-clause-ok g c clean =
    ok_then c.run.result (ended_done c.in_ok-version.version c.args.ended_below c.in_ok-version.ensures (state g.S.Store c.args.tx.now.conn.now) (state g.S.Store c.run.new.tx.conn.now)) (c.run.ensures.ok clean)

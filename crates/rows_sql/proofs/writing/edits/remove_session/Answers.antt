use Rattle.sqlite.specs.Held.{state}
use Rattle.rows_sql.proofs.WriteSteps.{ok_then}
use Rattle.rows_sql.proofs.RemoveSession.{session_gone}
use Rattle.rows_sql.proofs.writing.edits.remove_session.Goals as goal

pub returns-clause-ok : goal.returns-clause-ok
returns-clause-ok g c clean =
    ok_then c.run.result (session_gone c.args.client c.in_ok-client.client c.in_ok-client.ensures (state g.S.Store c.args.tx.now.conn.now) (state g.S.Store c.run.new.tx.conn.now)) (c.run.ensures.ok clean)

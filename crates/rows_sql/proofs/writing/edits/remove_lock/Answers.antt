use Rattle.sqlite.specs.Held.{state}
use Rattle.rows_sql.proofs.WriteSteps.{ok_then}
use Rattle.rows_sql.proofs.RemoveLock.{lock_gone}
use Rattle.rows_sql.proofs.writing.edits.remove_lock.Goals as goal

pub returns-clause-ok : goal.returns-clause-ok
returns-clause-ok g c clean =
    ok_then c.run.result
    (lock_gone c.args.key.now c.in_ok-instance.instance c.in_ok-client.client c.in_ok-handle.handle c.in_ok-instance.ensures c.in_ok-client.ensures c.in_ok-handle.ensures (state g.S.Store c.args.tx.now.conn.now) (state g.S.Store c.run.new.tx.conn.now))
    (c.run.ensures.ok clean)

use Rattle.sqlite.specs.Held.{state}
use Rattle.rows_sql.proofs.WriteSteps.{ok_then}
use Rattle.rows_sql.proofs.PutLock.{lock_there}
use Rattle.rows_sql.proofs.writing.edits.put_lock.Goals as goal

pub returns-clause-ok : goal.returns-clause-ok
returns-clause-ok g c clean =
    ok_then c.run.result
    (lock_there c.args.key.now c.args.row.now c.in_ok-instance.instance c.in_ok-client.client c.in_ok-handle.handle c.mode_as-mode.result c.in_ok-delay.delay c.in_ok-instance.ensures c.in_ok-client.ensures c.in_ok-handle.ensures c.mode_as-mode.ensures c.in_ok-delay.ensures (state g.S.Store c.args.tx.now.conn.now) (state g.S.Store c.run.new.tx.conn.now))
    (c.run.ensures.ok clean)

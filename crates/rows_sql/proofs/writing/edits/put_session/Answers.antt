use Rattle.std.proofs.Common.{ap, ◌∙◌}
use Rattle.sqlite_value.specs.declared.value.Value.TheVariants.{Text}
use Rattle.sqlite_value.specs.declared.value.ValueRef.TheVariants as given
use Rattle.sqlite.specs.Held.{state}
use Rattle.rows_sql.proofs.WriteSteps.{ok_then}
use Rattle.rows_sql.proofs.PutSession.{session_there}
use Rattle.rows_sql.proofs.writing.edits.put_session.Goals as goal

pub returns-clause-ok : goal.returns-clause-ok
returns-clause-ok g c clean =
    ok_then c.run.result
    (session_there c.args.client c.args.session.now c.in_ok-client.client (given.Text c.as_bytes-principal.result) c.live_as-live.result (ap Text (c.as_bytes-principal.ensures.value ∙ c.as_str.ensures.text)) c.as_str.ensures.component c.in_ok-client.ensures c.live_as-live.ensures
    (state g.S.Store c.args.tx.now.conn.now) (state g.S.Store c.run.new.tx.conn.now))
    (c.run.ensures.ok clean)

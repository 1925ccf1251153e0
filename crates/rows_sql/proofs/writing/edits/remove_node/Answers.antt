use Rattle.std.proofs.Common.{ap, ◌∙◌}
use Rattle.sqlite_value.specs.declared.value.Value.TheVariants.{Text}
use Rattle.sqlite_value.specs.declared.value.ValueRef.TheVariants as given
use Rattle.sqlite.specs.Held.{state}
use Rattle.rows_sql.proofs.WriteSteps.{ok_then}
use Rattle.rows_sql.proofs.RemoveNode.{node_gone}
use Rattle.rows_sql.proofs.writing.edits.remove_node.Goals as goal

pub returns-clause-ok : goal.returns-clause-ok
returns-clause-ok g c clean =
    ok_then c.run.result
    (node_gone c.args.name.now (given.Text c.as_bytes.result) (ap Text (c.as_bytes.ensures.value ∙ c.as_str.ensures.text)) (state g.S.Store c.args.tx.now.conn.now) (state g.S.Store c.run.new.tx.conn.now))
    (c.run.ensures.ok clean)

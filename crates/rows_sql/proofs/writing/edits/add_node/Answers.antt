use Rattle.std.proofs.Common.{ap, ◌∙◌}
use Rattle.sqlite_value.specs.declared.value.Value.TheVariants.{Text, Blob}
use Rattle.sqlite_value.specs.declared.value.ValueRef.TheVariants as given
use Rattle.sqlite.specs.Held.{state}
use Rattle.rows_sql.proofs.WriteSteps.{ok_then}
use Rattle.rows_sql.proofs.AddNode.{node_added}
use Rattle.rows_sql.proofs.writing.edits.add_node.Goals as goal

pub returns-clause-ok : goal.returns-clause-ok
returns-clause-ok g c clean =
    ok_then c.run.result
    (node_added c.args.name.now c.args.node.now (given.Text c.as_bytes.result) c.in_ok-instance.instance c.kind_as.result c.life_as.result c.in_ok-content_generation.content_generation c.in_ok-acl_generation.acl_generation
    (given.Text c.as_bytes-2.result) (given.Text c.as_bytes-3.result) (given.Text c.as_bytes-4.result) (given.Blob c.as_slice.result)
    (record {
      name_is = ap Text (c.as_bytes.ensures.value ∙ c.as_str.ensures.text);
      read_is = ap Text (c.as_bytes-2.ensures.value ∙ c.as_str-2.ensures.text);
      write_is = ap Text (c.as_bytes-3.ensures.value ∙ c.as_str-3.ensures.text);
      change_is = ap Text (c.as_bytes-4.ensures.value ∙ c.as_str-4.ensures.text);
      content_is = ap Blob c.as_slice.ensures;
    })
    c.as_str.ensures.name (record { read = c.as_str-2.ensures.component; write = c.as_str-3.ensures.component; change = c.as_str-4.ensures.component })
    c.in_ok-instance.ensures c.kind_as.ensures c.life_as.ensures c.in_ok-content_generation.ensures c.in_ok-acl_generation.ensures (state g.S.Store c.args.tx.now.conn.now) (state g.S.Store c.run.new.tx.conn.now))
    (c.run.ensures.ok clean)

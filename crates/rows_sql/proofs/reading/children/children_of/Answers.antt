use Rattle.std.proofs.Common.{nat_cmp}
use Rattle.std.specs.Cmp.Lexicographic.{slice_cmp}
use Rattle.std.specs.Map.{keys_of}
use Rattle.std.specs.List.Sorted.{IsStrictlySortedBy}
use Rattle.rows_cell.specs.Rows.{StoredNodes}
use Rattle.rows_sql.proofs.Parents.{gathered_more}
use Rattle.rows_sql.proofs.reading.children.children_of.Goals as goal

pub loop-name-preserved : goal.loop-name-preserved
loop-name-preserved c =
    let P : StoredNodes → Type 0 = λ all. IsStrictlySortedBy (slice_cmp nat_cmp) (keys_of all) in
    let sorted : P c.args.nodes.now = rw (← c.as_map-stored.ensures) c.len-count.ensures.ordered in
    gathered_more c.args.nodes.now c.loop-name.name-iterator c.next.new.self c.loop-name.children c.put_under.new.children c.in-Some.name.now c.in-Some._node.now sorted c.loop-name.invariant c.in-Some.ensures.steps c.in_ok-put_under.ensures

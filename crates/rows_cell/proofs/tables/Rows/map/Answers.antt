use Rattle.std.proofs.Common.{nat_cmp}
use Rattle.std.specs.Cmp.Lexicographic.{slice_cmp}
use Rattle.std.specs.Map.{keys_of}
use Rattle.std.specs.List.Sorted.{IsStrictlySortedBy}
use Rattle.rows_cell.specs.Rows.{StoredNodes}
use Rattle.rows_cell.proofs.MapOfRows.{one_more}
use Rattle.rows_cell.proofs.tables.Rows.map.Goals as goal

pub loop-name-preserved-in_ok-set : goal.loop-name-preserved-in_ok-set
loop-name-preserved-in_ok-set c =
    let P : StoredNodes → Type 0 = λ all. IsStrictlySortedBy (slice_cmp nat_cmp) (keys_of all) in
    let sorted : P c.args.self.now.nodes = rw (← c.as_map-stored.ensures) c.len-count.ensures.ordered in
    one_more c.args.self.now.nodes c.loop-name.name-iterator c.next.new.self c.loop-name.map c.set.new.self c.in-Some.name.now c.in-Some.node.now c.in_ok-clone.field-0 c.in_ok-clone-2.field-0 sorted c.loop-name.invariant c.in-Some.ensures.steps c.in_ok-clone.ensures.cases c.in_ok-clone-2.ensures.cases c.in_ok-set.ensures.ok

pub loop-name-preserved : goal.loop-name-preserved
loop-name-preserved c =
    let P : StoredNodes → Type 0 = λ all. IsStrictlySortedBy (slice_cmp nat_cmp) (keys_of all) in
    let sorted : P c.args.self.now.nodes = rw (← c.as_map-stored.ensures) c.len-count.ensures.ordered in
    one_more c.args.self.now.nodes c.loop-name.name-iterator c.next.new.self c.loop-name.map c.set.new.self c.in-Some.name.now c.in-Some.node.now c.in_ok-clone.field-0 c.in_ok-clone-2.field-0 sorted c.loop-name.invariant c.in-Some.ensures.steps c.in_ok-clone.ensures.cases c.in_ok-clone-2.ensures.cases c.in_ok-set.ensures.ok

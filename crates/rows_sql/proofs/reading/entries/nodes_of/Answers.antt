use Rattle.std.proofs.Common.{◌≡◌, ◌<◌, length, Some, None, rules}
use Rattle.std.specs.Ordering.{nat_cmp}
use Rattle.std.specs.Cmp.Lexicographic.{slice_cmp}
use Rattle.std.proofs.lemmas.Cmp.{nat_list_cmp_total}
use Rattle.rows_sql.specs.Decode.{node_in}
use Rattle.rows_sql.proofs.ReadLoops.{none_at, twice_at, more_at}
use Rattle.rows_sql.proofs.reading.entries.nodes_of.Goals as goal

pub returns-in_default : goal.returns-in_default
returns-in_default c =
    let low : c.loop-row.row-index < length c.args.rows.now = search rules in
    let none : node_in c.row-item.result ≡ None = search rules in
    none_at (slice_cmp nat_cmp) nat_list_cmp_total node_in c.args.rows.now c.loop-row.row-index c.row-item.result low c.row-item.is none

pub returns-then-is_some : goal.returns-then-is_some
returns-then-is_some c =
    let low : c.loop-row.row-index < length c.args.rows.now = search rules in
    let said : node_in c.row-item.result ≡ Some (c.in-Some.name, c.in-Some.node) = search rules in
    twice_at (slice_cmp nat_cmp) nat_list_cmp_total node_in c.args.rows.now c.loop-row.row-index c.row-item.result low c.row-item.is c.loop-row.nodes c.in-Some.name c.in-Some.node c.in_ok-put.field-0 c.loop-row.invariant said c.in_ok-put.ensures.former (search rules)

pub loop-row-preserved : goal.loop-row-preserved
loop-row-preserved c =
    let low : c.loop-row.row-index < length c.args.rows.now = search rules in
    let said : node_in c.row-item.result ≡ Some (c.in-Some.name, c.in-Some.node) = search rules in
    more_at (slice_cmp nat_cmp) nat_list_cmp_total node_in c.args.rows.now c.loop-row.row-index c.row-item.result low c.row-item.is c.loop-row.nodes c.put.new.self c.in-Some.name c.in-Some.node c.in_ok-put.field-0 c.loop-row.invariant said c.in_ok-put.ensures.former (search rules) c.in_ok-put.ensures.ok

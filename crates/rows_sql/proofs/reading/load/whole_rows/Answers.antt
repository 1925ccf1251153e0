use Rattle.std.proofs.Common.{◌≡◌}
use Rattle.std.specs.Ordering.{nat_cmp}
use Rattle.std.specs.Cmp.Lexicographic.{slice_cmp}
use Rattle.rows_sql.specs.Decode.{child_in}
use Rattle.rows_sql.specs.Held.{IsRead}
use Rattle.rows_sql.specs.Raws.{shown}
use Rattle.rows_sql.proofs.SaidTables.{unlike_children}
use Rattle.rows_sql.proofs.reading.load.whole_rows.Goals as goal

pub returns-then-not-are_same : goal.returns-then-not-are_same
returns-then-not-are_same c =
    let held : IsRead (slice_cmp nat_cmp) child_in c.args.raw.now.children.items c.in_ok-parents.field-0 = rw c.deref.ensures.value at c.in_ok-parents.ensures in
    unlike_children c.args.version (shown c.args.raw.now) _ c.in-Some.parents _ c.in-Some-2.rows c.are_same-2.result _ held c.in-Some.is c.in_ok-rows.ensures c.in-Some-2.is c.are_same-2.ensures c.if-not-are_same.true c.in_ok-children_for.ensures

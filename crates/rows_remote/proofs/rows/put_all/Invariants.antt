use Rattle.std.proofs.Common.{◌≡◌}
use Rattle.std.specs.Vec.Iter.{into_iter_items}
use Rattle.rows_remote.specs.Keeping.{with_rows}
use Rattle.rows_remote.proofs.rows.put_all.Given as goal

-- what is left is still put
abbrev pub invariant-loop-row : goal.invariant-loop-row
invariant-loop-row l =
    (goal.iterator-loop-row).can_next l.row-iterator ×
    (goal.iterator-loop-row).is_finite l.row-iterator ×
    (with_rows l.rows (into_iter_items l.row-iterator) ≡ with_rows l.fn.rows l.fn.others)

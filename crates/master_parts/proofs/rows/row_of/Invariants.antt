use Rattle.std.proofs.Common.{◌≡◌, drop}
use Rattle.std.specs.Map.{lookup}
use Rattle.std.specs.BTreeMap.{is_at}
use Rattle.rows_cell.specs.Keys.{lock_order}
use Rattle.master_parts.proofs.rows.row_of.Given as goal

abbrev pub invariant-loop-other : goal.invariant-loop-other
invariant-loop-other l = lookup (is_at (lock_order l.key)) (drop l.other-index l.rows) ≡ lookup (is_at (lock_order l.key)) l.rows

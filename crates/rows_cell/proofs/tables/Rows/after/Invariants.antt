use Rattle.std.proofs.Common.{◌≡◌, drop}
use Rattle.rows_cell.specs.Rows.{changed_rows}
use Rattle.rows_cell.proofs.tables.Rows.after.Given as goal

abbrev pub invariant-loop-edit : goal.invariant-loop-edit
invariant-loop-edit l = changed_rows l.rows (drop l.edit-index l.change) ≡ changed_rows l.self l.change

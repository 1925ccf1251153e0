use Rattle.std.proofs.Common.{◌≡◌, drop, false}
use Rattle.std.specs.List.{list_any}
use Rattle.rows_cell.specs.Rows.{changed_rows, takes_memory}
use Rattle.rows_cell.proofs.tables.Rows.set_all.Given as goal

abbrev pub invariant-loop-edit : goal.invariant-loop-edit
invariant-loop-edit l = record {
  rows : changed_rows l.self (drop l.edit-index l.edits) ≡ changed_rows l.initial.self l.edits;
  left : list_any takes_memory (drop l.edit-index l.edits) ≡ false;
}

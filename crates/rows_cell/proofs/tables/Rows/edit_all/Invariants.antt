use Rattle.std.proofs.Common.{◌≡◌, drop, false}
use Rattle.std.specs.List.{list_any}
use Rattle.rows_cell.specs.Rows.{changed_rows}
use Rattle.rows_cell.specs.Undo.{all_restored, removes_row, settled}
use Rattle.rows_cell.proofs.tables.Rows.edit_all.Given as goal

abbrev pub invariant-loop-edit : goal.invariant-loop-edit
invariant-loop-edit l = record {
  rows : changed_rows (settled l.self l.late) (drop l.edit-index l.edits) ≡ changed_rows l.fn.self l.edits;
  back : all_restored l.self l.formers.items ≡ l.fn.self;
  left : list_any removes_row (drop l.edit-index l.edits) ≡ false;
}

use Rattle.std.proofs.Common.{◌≡◌, ◌++◌, drop, map}
use Rattle.rows_cell.specs.declared.tables.Edit.TheVariants.{PutLock}
use Rattle.rows_cell.specs.LockRows.{put_rows, row_edits}
use Rattle.master_parts.proofs.rows.row_edits.Given as goal

abbrev pub invariant-loop-key : goal.invariant-loop-key
invariant-loop-key l = l.edits ++ map (λ e. PutLock e.0 e.1) (put_rows l.old (drop l.key-index l.new)) ≡ row_edits l.old l.new

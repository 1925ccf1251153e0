use Rattle.std.proofs.Common.{◌≡◌}
use Rattle.std.specs.Prelude.{length}
use Rattle.rows_cell.specs.Undo.{all_restored}
use Rattle.rows_cell.proofs.tables.Rows.restore_all.Given as goal

abbrev pub invariant-loop-former : goal.invariant-loop-former
invariant-loop-former l = all_restored l.self l.formers ≡ all_restored l.fn.self l.fn.formers

abbrev pub decreases-loop-former : goal.decreases-loop-former
decreases-loop-former l = length l.formers

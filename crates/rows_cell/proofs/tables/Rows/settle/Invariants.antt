use Rattle.std.proofs.Common.{◌≡◌}
use Rattle.rows_cell.specs.Undo.{settled}
use Rattle.rows_cell.proofs.tables.Rows.settle.Given as goal

abbrev pub invariant-loop-key : goal.invariant-loop-key
invariant-loop-key l = settled l.self l.key-iterator ≡ settled l.fn.self l.late

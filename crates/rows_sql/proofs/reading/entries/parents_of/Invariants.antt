use Rattle.std.proofs.Common.{take}
use Rattle.rows_sql.specs.Held.{HoldsChildren}
use Rattle.rows_sql.proofs.reading.entries.parents_of.Given as goal

abbrev pub invariant-loop-row : goal.invariant-loop-row
invariant-loop-row l = HoldsChildren (take l.row-index l.rows) l.parents

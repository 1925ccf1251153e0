use Rattle.std.proofs.Common.{take}
use Rattle.rows_sql.specs.Held.{HoldsLocks}
use Rattle.rows_sql.proofs.reading.entries.locks_of.Given as goal

abbrev pub invariant-loop-row : goal.invariant-loop-row
invariant-loop-row l = HoldsLocks (take l.row-index l.rows) l.locks

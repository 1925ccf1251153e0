use Rattle.std.proofs.Common.{take}
use Rattle.rows_sql.specs.Held.{HoldsSessions}
use Rattle.rows_sql.proofs.reading.entries.sessions_of.Given as goal

abbrev pub invariant-loop-row : goal.invariant-loop-row
invariant-loop-row l = HoldsSessions (take l.row-index l.rows) l.sessions

use Rattle.std.proofs.Common.{take}
use Rattle.rows_sql.specs.Held.{HoldsNodes}
use Rattle.rows_sql.proofs.reading.entries.nodes_of.Given as goal

abbrev pub invariant-loop-row : goal.invariant-loop-row
invariant-loop-row l = HoldsNodes (take l.row-index l.rows) l.nodes

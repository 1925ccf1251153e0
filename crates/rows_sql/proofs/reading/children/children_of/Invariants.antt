use Rattle.rows_sql.proofs.Parents.{IsGathered}
use Rattle.rows_sql.proofs.reading.children.children_of.Given as goal

abbrev pub invariant-loop-name : goal.invariant-loop-name
invariant-loop-name l = IsGathered l.nodes l.name-iterator l.children

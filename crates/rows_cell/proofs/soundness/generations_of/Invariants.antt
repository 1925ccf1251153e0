use Rattle.rows_cell.proofs.InstanceTables.{IsGathered}
use Rattle.rows_cell.proofs.soundness.generations_of.Given as goal

abbrev pub invariant-loop-name : goal.invariant-loop-name
invariant-loop-name l = IsGathered l.nodes l._name-iterator l.generations

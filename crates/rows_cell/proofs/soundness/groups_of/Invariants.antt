use Rattle.rows_cell.proofs.InstanceTables.{IsGrouped}
use Rattle.rows_cell.proofs.soundness.groups_of.Given as goal

abbrev pub invariant-loop-key : goal.invariant-loop-key
invariant-loop-key l = IsGrouped l.locks l.key-iterator l.groups

use Rattle.std.proofs.Common.{◌≡◌}
use Rattle.std.specs.Prelude.{fold}
use Rattle.master_parts.specs.Locks.{generations_of, with_generation}
use Rattle.cell_core.proofs.stored.generations_of.Given as goal

abbrev pub invariant-loop-node : goal.invariant-loop-node
invariant-loop-node l = fold with_generation l.locks l.node-iterator ≡ generations_of l.rows

use Rattle.std.proofs.Common.{◌≡◌}
use Rattle.std.specs.Prelude.{fold}
use Rattle.master_parts.specs.Locks.{locks_of, with_row}
use Rattle.cell_core.proofs.stored.locks_of.Given as goal

abbrev pub invariant-loop-key : goal.invariant-loop-key
invariant-loop-key l = fold (with_row l.now) l.locks l.key-iterator ≡ locks_of l.rows l.now

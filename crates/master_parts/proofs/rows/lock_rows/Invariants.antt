use Rattle.std.proofs.Common.{◌≡◌, ◌++◌}
use Rattle.master_parts.specs.Locks.{holder_rows, lock_rows}
use Rattle.master_parts.proofs.rows.lock_rows.Given as goal

abbrev pub invariant-loop-owner : goal.invariant-loop-owner
invariant-loop-owner l = l.rows ++ holder_rows l.instance l.owner-iterator ≡ lock_rows l.instance l.lock

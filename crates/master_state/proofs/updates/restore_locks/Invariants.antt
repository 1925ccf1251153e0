use Rattle.std.proofs.Common.{◌≡◌}
use Rattle.std.specs.Prelude.{length}
use Rattle.master_state.specs.Updates.{without_locks}
use Rattle.master_state.proofs.updates.restore_locks.Given as goal

abbrev pub invariant-loop-instance : goal.invariant-loop-instance
invariant-loop-instance l = without_locks l.master l.formers ≡ without_locks l.fn.master l.fn.formers

abbrev pub decreases-loop-instance : goal.decreases-loop-instance
decreases-loop-instance l = length l.formers

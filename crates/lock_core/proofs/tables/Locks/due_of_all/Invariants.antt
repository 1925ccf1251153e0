use Rattle.std.proofs.Common.{◌≡◌}
use Rattle.lock_core.specs.Locks.{due}
use Rattle.lock_core.proofs.tables.Locks.due_of_all.Given as goal

abbrev pub invariant-loop-instance : goal.invariant-loop-instance
invariant-loop-instance l = due l.instance-iterator l.now ≡ due l.self l.now

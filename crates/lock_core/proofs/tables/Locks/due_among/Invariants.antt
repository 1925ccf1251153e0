use Rattle.std.proofs.Common.{◌≡◌}
use Rattle.lock_core.specs.Locks.{first_due}
use Rattle.lock_core.proofs.tables.Locks.due_among.Given as goal

abbrev pub invariant-loop-instance : goal.invariant-loop-instance
invariant-loop-instance l = first_due l.self l.now l.instance-iterator ≡ first_due l.self l.now l.instances.keys

use Rattle.std.proofs.Common.{◌≡◌, ◌+◌}
use Rattle.lock_core.specs.Counted.{claims_among}
use Rattle.lock_core.proofs.tables.Locks.claims_among.Given as goal

abbrev pub invariant-loop-instance : goal.invariant-loop-instance
invariant-loop-instance l = l.sum + claims_among l.client l.self l.instance-iterator ≡ claims_among l.client l.self l.instances.keys

use Rattle.std.proofs.Common.{◌≡◌}
use Rattle.lock_core.proofs.tables.Locks.put_openings_off.Given as goal

abbrev pub invariant-loop : goal.invariant-loop
invariant-loop l = l.self ≡ l.fn.self

use Rattle.std.proofs.Common.{◌≡◌, ◌+◌}
use Rattle.lock_core.specs.Counted.{claim_count}
use Rattle.lock_core.proofs.tables.Locks.claims_of_all.Given as goal

abbrev pub invariant-loop-lock : goal.invariant-loop-lock
invariant-loop-lock l = l.sum + claim_count l.client l.lock-iterator ≡ claim_count l.client l.self

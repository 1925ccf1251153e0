use Rattle.std.proofs.Common.{◌≡◌, ◌+◌, drop}
use Rattle.std.specs.List.{count_by}
use Rattle.lock_core.specs.Turns.{is_of_client}
use Rattle.lock_core.proofs.counted.with_waiters.Given as goal

abbrev pub invariant-loop-claim : goal.invariant-loop-claim
invariant-loop-claim l = l.sum + count_by (λ claim. is_of_client l.client claim.owner) (drop l.claim-index l.waiters) ≡ l.before + count_by (λ claim. is_of_client l.client claim.owner) l.waiters

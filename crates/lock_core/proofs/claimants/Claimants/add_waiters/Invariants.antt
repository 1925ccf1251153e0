use Rattle.std.proofs.Common.{drop}
use Rattle.lock_core.specs.Turns.{is_of_client}
use Rattle.lock_core.proofs.Listed.{AreAdded}
use Rattle.lock_core.proofs.claimants.Claimants.add_waiters.Given as goal

abbrev pub invariant-loop-claim : goal.invariant-loop-claim
invariant-loop-claim l = AreAdded (λ c claim. is_of_client c claim.owner) l.instance l.fn.self l.self (drop l.claim-index l.waiters) l.waiters

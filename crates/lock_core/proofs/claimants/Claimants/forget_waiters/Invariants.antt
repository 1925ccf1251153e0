use Rattle.std.proofs.Common.{◌≡◌, ℕ, true, false, nat_eq}
use Rattle.lock_core.specs.Claimants.{has}
use Rattle.lock_core.proofs.claimants.Claimants.forget_waiters.Given as goal

abbrev pub invariant-loop-claim : goal.invariant-loop-claim
invariant-loop-claim l = (c i : ℕ) → nat_eq i l.instance ≡ false → has l.fn.self c i ≡ true → has l.self c i ≡ true

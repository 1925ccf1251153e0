use Rattle.std.proofs.Common.{◌≡◌, ℕ, true, false, nat_eq}
use Rattle.lock_core.specs.Claimants.{has}
use Rattle.lock_core.proofs.claimants.Claimants.forget_holders.Given as goal

abbrev pub invariant-loop-owner : goal.invariant-loop-owner
invariant-loop-owner l = (c i : ℕ) → nat_eq i l.instance ≡ false → has l.fn.self c i ≡ true → has l.self c i ≡ true

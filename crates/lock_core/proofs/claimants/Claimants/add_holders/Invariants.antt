use Rattle.lock_core.specs.Turns.{is_of_client}
use Rattle.lock_core.proofs.Listed.{AreAdded}
use Rattle.lock_core.proofs.claimants.Claimants.add_holders.Given as goal

abbrev pub invariant-loop-owner : goal.invariant-loop-owner
invariant-loop-owner l = AreAdded (λ c e. is_of_client c e.0) l.instance l.fn.self l.self l.owner-iterator l.holders

use Rattle.lock_core.proofs.Listed.{AreLeft}
use Rattle.lock_core.proofs.claimants.note_each.Given as goal

abbrev pub invariant-loop-instance : goal.invariant-loop-instance
invariant-loop-instance l = AreLeft l.claimants l.instance-iterator l.locks

use Rattle.lock_core.proofs.Openings.{AreLeft}
use Rattle.lock_core.proofs.moments.note_all.Given as goal

abbrev pub invariant-loop-instance : goal.invariant-loop-instance
invariant-loop-instance l = AreLeft l.openings l.instance-iterator l.locks

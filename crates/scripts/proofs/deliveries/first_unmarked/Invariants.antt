use Rattle.scripts.specs.Settling.{AreDelivered}
use Rattle.scripts.proofs.deliveries.first_unmarked.Given as goal

-- those passed so far are marked
abbrev pub invariant-loop-place : goal.invariant-loop-place
invariant-loop-place l = AreDelivered l.place l.marks

use Rattle.std.proofs.Common.{◌≡◌, ◌<◌, ◌≤◌}
use Rattle.std.specs.Vec.{vec_len, vec_capacity}
use Rattle.scripts.specs.Settling.{marked}
use Rattle.scripts.proofs.deliveries.mark.Given as goal

-- places without a mark were added
abbrev pub invariant-loop : goal.invariant-loop
invariant-loop l = (vec_len l.marks ≡ l.counter) × (marked l.marks.items l.place ≡ marked l.fn.marks.items l.place) × (l.place < vec_capacity l.marks)

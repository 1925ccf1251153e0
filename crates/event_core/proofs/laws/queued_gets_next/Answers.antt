use Rattle.std.proofs.Common.{◌≡◌, ◌+◌, ◌∷◌, [], ◌++◌, length, ap, ◌∙◌, arith}
use Rattle.event_core.specs.Queue.{unacked}
use Rattle.event_core.proofs.Numbers.{numbered_push}
use Rattle.event_core.proofs.laws.queued_gets_next.Goals as goal

pub returns : goal.returns
returns c = λ queue event room.
    let same : (queue.acknowledged + 1) + length queue.waiting ≡ (queue.acknowledged + length queue.waiting) + 1 = omega arith in
    rw room (numbered_push (queue.acknowledged + 1) queue.waiting event ∙ ap (λ m. unacked queue ++ record { number = m; event = event } ∷ []) same)

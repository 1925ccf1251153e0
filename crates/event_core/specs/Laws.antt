-- What holds of the numbers of events.
use Rattle.std.specs.Prelude.{◌≡◌, ℕ, ◌+◌, ◌∷◌, [], ◌++◌, nat_lt, filter, false}
use Rattle.node_core.specs.declared.events.Event.{Event}
use Rattle.event_core.specs.Queue.{EventQueue, empty_queue, count_of, is_full, unacked, pushed, has_lost, behind, acknowledged_to}

-- an event for a queue that isn't full gets the next number, and all others keep theirs
abbrev pub QueuedGetsNext : Type 0
QueuedGetsNext =
    (queue : EventQueue) (event : Event) → is_full queue ≡ false
    → unacked (pushed event queue) ≡ unacked queue ++ record { number = count_of queue + 1; event = event } ∷ []

-- behind an acknowledgement just the events with greater numbers wait, under the numbers that they had
abbrev pub GreaterNumbersWait : Type 0
GreaterNumbersWait = (queue : EventQueue) (number : ℕ) → unacked (behind number queue) ≡ filter (λ event. nat_lt number event.number) (unacked queue)

-- what was missed is told of as soon as an event can be added
pub record MissedIsTold : Type 0 where
  pub begins : has_lost empty_queue ≡ false
  pub push : (queue : EventQueue) (event : Event) → has_lost queue ≡ false → has_lost (pushed event queue) ≡ false
  pub acknowledge : (queue : EventQueue) (number : ℕ) → has_lost (acknowledged_to number queue) ≡ false

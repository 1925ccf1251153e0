-- The events of one session.
use Rattle.std.specs.Prelude.{ℕ, Bool, true, false, not, ◌&&◌, ◌||◌, ◌+◌, ◌-◌, nat_lt, nat_le, List, [], ◌∷◌, ◌++◌, length, drop, Option, Some, None, if◌then◌else◌}
use Rattle.node_core.specs.Limits.{number_limit}
use Rattle.node_core.specs.declared.events.Event.{Event}
use Rattle.node_core.specs.declared.events.Event.TheVariants.{Lost}
use Rattle.node_core.specs.declared.refusals.Fault.{Fault}
use Rattle.node_core.specs.declared.refusals.Fault.TheVariants as faults
use Rattle.tags_cell.specs.declared.messages.beats.NumberedEvent.{NumberedEvent}

-- acknowledged: the number of the last event that the session acknowledged. waiting: the events behind it, in order of their numbers, which rise by one.
-- missed: whether a later one found the queue full
pub record EventQueue : Type 0 where
  pub acknowledged : ℕ
  pub waiting : List Event
  pub missed : Bool

abbrev pub empty_queue : EventQueue
empty_queue = record { acknowledged = 0; waiting = []; missed = false }

-- the most events of a session that wait for its acknowledgement
abbrev pub waiting_limit : ℕ
waiting_limit = 256

-- the number of the last event
abbrev pub count_of : EventQueue → ℕ
count_of queue = queue.acknowledged + length queue.waiting

-- no event can get a number any more
abbrev pub is_exhausted : EventQueue → Bool
is_exhausted queue = nat_le number_limit (count_of queue)

-- no event can be added: as many wait as may, or no number is left
abbrev pub is_full : EventQueue → Bool
is_full queue = nat_le waiting_limit (length queue.waiting) || is_exhausted queue

-- some wait for their acknowledgement
abbrev pub has_waiting : EventQueue → Bool
has_waiting queue = nat_le 1 (length queue.waiting)

-- events with their numbers, which rise by one from this one on
abbrev pub numbered_from : ℕ → List Event → List NumberedEvent
numbered_from number [] = []
numbered_from number (event ∷ events) = record { number = number; event = event } ∷ numbered_from (number + 1) events

-- the events that wait, with their numbers
abbrev pub unacked : EventQueue → List NumberedEvent
unacked queue = numbered_from (queue.acknowledged + 1) queue.waiting

abbrev pub queued : Event → EventQueue → EventQueue
queued event queue = record queue { waiting = queue.waiting ++ event ∷ [] }

-- where the queue is full an event is missed
abbrev pub pushed : Event → EventQueue → EventQueue
pushed event queue = if is_full queue then record queue { missed = true } else queued event queue

-- some were missed, and one can be added
abbrev pub has_lost : EventQueue → Bool
has_lost queue = queue.missed && not (is_full queue)

-- one event for all that were missed, once one can be added
abbrev pub with_lost : EventQueue → EventQueue
with_lost queue = if has_lost queue then record (queued Lost queue) { missed = false } else queue

abbrev pub without_first : ℕ → EventQueue → EventQueue
without_first count queue = record queue { acknowledged = queue.acknowledged + count; waiting = drop count queue.waiting }

-- the events up to a number wait no longer; an older number changes nothing
abbrev pub behind : ℕ → EventQueue → EventQueue
behind number queue = without_first (number - queue.acknowledged) queue

abbrev pub acknowledged_to : ℕ → EventQueue → EventQueue
acknowledged_to number queue = with_lost (behind number queue)

-- why an acknowledgement is refused: it is of more than was issued
abbrev pub acknowledge_fault : ℕ → EventQueue → Option Fault
acknowledge_fault number queue = if nat_lt (count_of queue) number then Some (faults.BadAck (count_of queue)) else None

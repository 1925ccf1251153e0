-- The events that an Alive carries.
use Rattle.std.specs.Prelude.{ℕ, nat_lt, Bool, List, [], ◌∷◌, map, if◌then◌else◌}
use Rattle.node_core.specs.declared.lines.Line.{Line}
use Rattle.node_core.specs.declared.lines.Line.TheVariants as lines
use Rattle.tags_cell.specs.declared.messages.beats.NumberedEvent.{NumberedEvent}
use Rattle.client_core.specs.InOrder.{are_in_order}

abbrev pub event_numbers : List NumberedEvent → List ℕ
event_numbers events = map (λ (next : NumberedEvent). next.number) events

abbrev pub are_events_in_order : ℕ → List NumberedEvent → Bool
are_events_in_order processed events = are_in_order processed (event_numbers events)

-- the last number, or this one where there is none
abbrev pub last_event : ℕ → List NumberedEvent → ℕ
last_event number [] = number
last_event number (next ∷ others) = last_event next.number others

-- a client prints those above what was processed
abbrev pub event_lines : ℕ → ℕ → List NumberedEvent → List Line
event_lines client processed [] = []
event_lines client processed (next ∷ others) =
    if nat_lt processed next.number then lines.Told client next.event ∷ event_lines client processed others else event_lines client processed others

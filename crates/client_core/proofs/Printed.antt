-- What is printed of events, and of a call that is given up: for what holds of a list line by line.
use Rattle.std.proofs.Common.{ℕ, List, [], ◌∷◌, Option, Some, None}
use Rattle.std.specs.Prelude.{nat_lt}
use Rattle.node_core.specs.declared.refusals.Fault.TheVariants as faults
use Rattle.node_core.specs.declared.answers.Answer.TheVariants as answers
use Rattle.node_core.specs.declared.events.Event.{Event}
use Rattle.node_core.specs.declared.lines.Line.{Line}
use Rattle.node_core.specs.declared.lines.Line.TheVariants as lines
use Rattle.tags_cell.specs.declared.messages.beats.NumberedEvent.{NumberedEvent}
use Rattle.client_core.specs.declared.parts.targets.Target.{Target}
use Rattle.client_core.specs.declared.parts.targets.Target.TheVariants as targets
use Rattle.client_core.specs.declared.parts.targets.Outstanding.{Outstanding}
use Rattle.client_core.specs.Events.{event_lines}
use Rattle.client_core.specs.Targets.{unknown_line, unknown_lines}
use Rattle.client_core.proofs.Noting.{either}

-- every line is one of an event
pub events_hold : (P : List Line → Type 0) (client processed : ℕ) (events : List NumberedEvent) → P [] → ((event : Event) (others : List Line) → P others → P (lines.Told client event ∷ others)) → P (event_lines client processed events)
events_hold P client processed [] none more = none
events_hold P client processed (next ∷ others) none more =
    let rest = events_hold P client processed others none more in
    either P (nat_lt processed next.number) (lines.Told client next.event ∷ event_lines client processed others) (event_lines client processed others)
    (λ h. more next.event (event_lines client processed others) rest) (λ h. rest)

unknown_by : (P : List Line → Type 0) (client : ℕ) (call : Outstanding) (target : Target) → P [] → ((number : ℕ) → P (lines.Done client number (answers.Refused faults.Unknown) ∷ [])) → P (unknown_line client call target)
unknown_by P client call targets.NewHandle none one = one _
unknown_by P client call (targets.Closing handle) none one = one _
unknown_by P client call (targets.Handle handle) none one = one _
unknown_by P client call (targets.Sequencing handle) none one = one _
unknown_by P client call targets.Checking none one = one _
unknown_by P client call targets.Leaving none one = one _
unknown_by P client call targets.Dropped none one = none

-- there is none, or one that refuses a call as Unknown
pub unknown_holds : (P : List Line → Type 0) (client : ℕ) (o : Option Outstanding) → P [] → ((number : ℕ) → P (lines.Done client number (answers.Refused faults.Unknown) ∷ [])) → P (unknown_lines client o)
unknown_holds P client None none one = none
unknown_holds P client (Some call) none one = unknown_by P client call call.target none one

use Rattle.std.proofs.Common.{◌≡◌, ◌++◌, drop}
use Rattle.client_core.specs.Events.{event_lines}
use Rattle.client_core.proofs.parts.events.with_events.Given as goal

-- the lines of what is left, after those so far, come to the same as the lines of all
abbrev pub invariant-loop-next : goal.invariant-loop-next
invariant-loop-next l = l.lines ++ event_lines l.client l.processed (drop l.next-index l.events) ≡ l.initial.lines ++ event_lines l.client l.processed l.events

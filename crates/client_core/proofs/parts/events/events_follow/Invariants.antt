use Rattle.std.proofs.Common.{◌≡◌, drop}
use Rattle.client_core.specs.InOrder.{follow}
use Rattle.client_core.specs.Events.{event_numbers}
use Rattle.client_core.proofs.parts.events.events_follow.Given as goal

-- what is left follows the last one exactly if all of them follow the first
abbrev pub invariant-loop-next : goal.invariant-loop-next
invariant-loop-next l = follow l.last (event_numbers (drop l.next-index l.events)) ≡ follow l.fn.last (event_numbers l.events)

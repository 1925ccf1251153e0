use Rattle.master_parts.specs.Listeners.{seat_order}
use Rattle.master_parts.proofs.PlacedHandles.{Collected}
use Rattle.master_parts.proofs.Seats.{seats_on}
use Rattle.master_parts.proofs.listeners.add_seated.Given as goal

abbrev pub invariant-loop-key : goal.invariant-loop-key
invariant-loop-key l = Collected seat_order (λ e. e.1) (seats_on l.fn.instance l.fn.subject l.seats) l.key-iterator l.fn.keys l.keys

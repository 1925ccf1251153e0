use Rattle.master_parts.specs.OpenHandles.{place_order}
use Rattle.master_parts.proofs.PlacedHandles.{Collected, places_on}
use Rattle.master_parts.proofs.open_handles.add_placed.Given as goal

abbrev pub invariant-loop-key : goal.invariant-loop-key
invariant-loop-key l = Collected place_order (λ e. e.1) (places_on l.instance l.places) l.key-iterator l.fn.keys l.keys

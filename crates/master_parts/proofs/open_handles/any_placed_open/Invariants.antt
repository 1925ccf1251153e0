use Rattle.std.proofs.Common.{◌≡◌}
use Rattle.std.specs.List.{list_any}
use Rattle.master_parts.specs.OpenHandles.{is_known_open}
use Rattle.master_parts.proofs.PlacedHandles.{places_on}
use Rattle.master_parts.proofs.open_handles.any_placed_open.Given as goal

abbrev pub invariant-loop-key : goal.invariant-loop-key
invariant-loop-key l = list_any (λ e. is_known_open l.states l.sessions l.instance e.1) l.key-iterator ≡ list_any (λ e. is_known_open l.states l.sessions l.instance e.1) (places_on l.instance l.places)

use Rattle.master_parts.specs.Keys.{handle_order}
use Rattle.master_parts.proofs.PlacedHandles.{Collected}
use Rattle.master_parts.proofs.open_handles.add_all.Given as goal

abbrev pub invariant-loop-key : goal.invariant-loop-key
invariant-loop-key l = Collected handle_order (λ e. e.0) l.states l.key-iterator l.fn.keys l.keys

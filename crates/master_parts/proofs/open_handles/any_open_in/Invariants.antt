use Rattle.std.proofs.Common.{◌≡◌}
use Rattle.std.specs.List.{list_any}
use Rattle.master_parts.specs.OpenHandles.{is_open_in}
use Rattle.master_parts.proofs.open_handles.any_open_in.Given as goal

abbrev pub invariant-loop-key : goal.invariant-loop-key
invariant-loop-key l = list_any (λ e. is_open_in l.sessions l.instance e.0 e.1) l.key-iterator ≡ list_any (λ e. is_open_in l.sessions l.instance e.0 e.1) l.states

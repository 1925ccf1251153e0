use Rattle.std.proofs.Common.{◌≡◌}
use Rattle.std.specs.Prelude.{find}
use Rattle.master_parts.specs.OpenHandles.{goes_with}
use Rattle.master_parts.proofs.open_handles.Handles.first_of_client.Given as goal

abbrev pub invariant-loop-key : goal.invariant-loop-key
invariant-loop-key l = find (goes_with l.client) l.key-iterator ≡ find (goes_with l.client) l.self

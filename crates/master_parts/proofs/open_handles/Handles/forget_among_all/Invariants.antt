use Rattle.std.proofs.Common.{◌≡◌}
use Rattle.std.specs.Prelude.{length}
use Rattle.master_parts.specs.OpenHandles.{without_client}
use Rattle.master_parts.proofs.open_handles.Handles.forget_among_all.Given as goal

abbrev pub invariant-loop-key : goal.invariant-loop-key
invariant-loop-key l = without_client l.self l.client ≡ without_client l.fn.self l.client

abbrev pub decreases-loop-key : goal.decreases-loop-key
decreases-loop-key l = length l.self

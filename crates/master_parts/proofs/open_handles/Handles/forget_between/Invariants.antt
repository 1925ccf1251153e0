use Rattle.std.specs.Prelude.{length}
use Rattle.master_parts.proofs.Parted.{Leaving}
use Rattle.master_parts.proofs.open_handles.Handles.forget_between.Given as goal

abbrev pub invariant-loop-key : goal.invariant-loop-key
invariant-loop-key l = Leaving l.client l.end l.from l.fn.self l.self

abbrev pub decreases-loop-key : goal.decreases-loop-key
decreases-loop-key l = length l.self

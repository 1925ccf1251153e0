use Rattle.std.proofs.Common.{◌≡◌}
use Rattle.std.specs.Vec.Iter.{into_iter_items}
use Rattle.master_state.specs.Updates.{with_kept}
use Rattle.master_state.proofs.updates.keep.Given as goal

abbrev pub invariant-loop-put : goal.invariant-loop-put
invariant-loop-put l =
    (goal.iterator-loop-put).can_next l.put-iterator ×
    (goal.iterator-loop-put).is_finite l.put-iterator ×
    (with_kept l.master (into_iter_items l.put-iterator) ≡ with_kept l.fn.master l.fn.puts)

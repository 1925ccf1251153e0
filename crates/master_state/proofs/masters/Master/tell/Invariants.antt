use Rattle.std.proofs.Common.{◌≡◌}
use Rattle.std.specs.Vec.Iter.{into_iter_items}
use Rattle.master_state.specs.Notices.{with_tellings}
use Rattle.master_state.proofs.masters.Master.tell.Given as goal

abbrev pub invariant-loop-telling : goal.invariant-loop-telling
invariant-loop-telling l =
    (goal.iterator-loop-telling).can_next l.telling-iterator ×
    (goal.iterator-loop-telling).is_finite l.telling-iterator ×
    (with_tellings l.self (into_iter_items l.telling-iterator) ≡ with_tellings l.fn.self l.fn.tellings)

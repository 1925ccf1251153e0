use Rattle.std.proofs.Common.{◌≡◌, ◌++◌}
use Rattle.std.specs.Vec.Iter.{into_iter_items}
use Rattle.master_state.specs.Lapses.{lapses_puts}
use Rattle.master_state.proofs.lapses.lapses_puts.Given as goal

abbrev pub invariant-loop-lapse : goal.invariant-loop-lapse
invariant-loop-lapse l =
    (goal.iterator-loop-lapse).can_next l.lapse-iterator ×
    (goal.iterator-loop-lapse).is_finite l.lapse-iterator ×
    (l.puts ++ lapses_puts l.master (into_iter_items l.lapse-iterator) ≡ lapses_puts l.master l.fn.ended)

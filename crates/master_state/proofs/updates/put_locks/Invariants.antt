use Rattle.std.proofs.Common.{◌≡◌}
use Rattle.std.specs.Vec.Iter.{into_iter_items}
use Rattle.master_state.specs.Updates.{with_locks, without_locks}
use Rattle.master_state.proofs.updates.put_locks.Given as goal

abbrev pub invariant-loop-put : goal.invariant-loop-put
invariant-loop-put l = record {
  next : (goal.iterator-loop-put).can_next l.put-iterator;
  finite : (goal.iterator-loop-put).is_finite l.put-iterator;
  rest : with_locks l.master (into_iter_items l.put-iterator) ≡ with_locks l.fn.master l.fn.puts;
  back : without_locks l.master l.formers.items ≡ l.fn.master;
}

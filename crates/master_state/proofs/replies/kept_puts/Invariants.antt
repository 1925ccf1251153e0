use Rattle.std.proofs.Common.{◌≡◌, ◌++◌}
use Rattle.std.specs.Vec.Iter.{into_iter_items}
use Rattle.master_state.specs.Replies.{kept_puts}
use Rattle.master_state.proofs.replies.kept_puts.Given as goal

abbrev pub invariant-loop-reply : goal.invariant-loop-reply
invariant-loop-reply l =
    (goal.iterator-loop-reply).can_next l.reply-iterator ×
    (goal.iterator-loop-reply).is_finite l.reply-iterator ×
    (l.puts ++ kept_puts (into_iter_items l.reply-iterator) ≡ kept_puts l.fn.replies)

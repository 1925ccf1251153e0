use Rattle.std.proofs.Common.{◌≡◌, ◌≤◌, ◌+◌, ◌++◌, map, length}
use Rattle.std.specs.Vec.{vec_len, vec_capacity}
use Rattle.std.specs.Vec.Iter.{into_iter_items}
use Rattle.world_steps.specs.declared.mail.Message.TheVariants.{ToClient}
use Rattle.world_steps.proofs.mail.send_all.Given as goal

-- what was added, with what is left, is all; and there is room for what is left
abbrev pub invariant-loop-out : goal.invariant-loop-out
invariant-loop-out l =
    (goal.iterator-loop-out).can_next l.out-iterator ×
    (goal.iterator-loop-out).is_finite l.out-iterator ×
    (l.sent.items ++ map ToClient (into_iter_items l.out-iterator) ≡ l.fn.sent.items ++ map ToClient l.fn.outs) ×
    (vec_len l.sent + length (into_iter_items l.out-iterator) ≤ vec_capacity l.sent)

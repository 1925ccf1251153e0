use Rattle.std.proofs.Common.{◌≡◌, ◌<◌, ◌+◌, ◌++◌, length}
use Rattle.std.specs.Vec.{vec_len, vec_capacity}
use Rattle.std.specs.Vec.Iter.{into_iter_items}
use Rattle.world_steps.proofs.parts.refused_behind.Given as goal

-- what was added, with what is left, is all; and there is room for what is left and a line more
abbrev pub invariant-loop-line : goal.invariant-loop-line
invariant-loop-line l =
    (goal.iterator-loop-line).can_next l.line-iterator ×
    (goal.iterator-loop-line).is_finite l.line-iterator ×
    (l.told.items ++ into_iter_items l.line-iterator ≡ l.fn.lines) ×
    (vec_len l.told + length (into_iter_items l.line-iterator) < vec_capacity l.told)

use Rattle.std.proofs.Common.{◌≡◌, ◌<◌, ◌+◌, ◌++◌, length}
use Rattle.std.specs.Prelude.{filter}
use Rattle.std.specs.Vec.{vec_len, vec_capacity}
use Rattle.std.specs.Vec.Iter.{into_iter_items}
use Rattle.world_steps.specs.World.{is_of_commit}
use Rattle.world_steps.proofs.parts.cut_lines.Given as goal

-- what was added, with what is left of the commit, is all; and there is room for what is left and a line more
abbrev pub invariant-loop-line : goal.invariant-loop-line
invariant-loop-line l =
    (goal.iterator-loop-line).can_next l.line-iterator ×
    (goal.iterator-loop-line).is_finite l.line-iterator ×
    (l.told.items ++ filter is_of_commit (into_iter_items l.line-iterator) ≡ filter is_of_commit l.fn.lines) ×
    (vec_len l.told + length (into_iter_items l.line-iterator) < vec_capacity l.told)

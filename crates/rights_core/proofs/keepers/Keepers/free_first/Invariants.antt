use Rattle.std.proofs.Common.{◌≡◌, ℕ, List, None, cond, take}
use Rattle.std.specs.Prelude.{◌==◌, ◌&&◌}
use Rattle.std.specs.List.{list_any}
use Rattle.std.specs.VecDeque.Iter.{deque_iter_rest}
use Rattle.rights_core.specs.Holds.{keeps}
use Rattle.rights_core.specs.Indexes.{number_in}
use Rattle.rights_core.proofs.keepers.Keepers.free_first.Given as goal

abbrev pub invariant-loop-number : goal.invariant-loop-number
invariant-loop-number l = (other : ℕ) (theirs : List ℕ)
    → cond ((other == l.client) && list_any (keeps theirs l.rights) (take l.left (deque_iter_rest l.number-iterator))) None (number_in other theirs l.self)
    ≡ cond ((other == l.client) && list_any (keeps theirs l.rights) (take l.count l.numbers.items)) None (number_in other theirs l.fn.self)

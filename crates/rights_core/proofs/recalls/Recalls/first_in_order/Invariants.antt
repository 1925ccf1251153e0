use Rattle.std.proofs.Common.{◌≡◌, [], take}
use Rattle.std.specs.Prelude.{fold}
use Rattle.std.specs.VecDeque.Iter.{deque_iter_rest}
use Rattle.rights_core.specs.Holds.{with_number}
use Rattle.rights_core.proofs.recalls.Recalls.first_in_order.Given as goal

abbrev pub invariant-loop-number : goal.invariant-loop-number
invariant-loop-number l = fold with_number l.first (take l.left (deque_iter_rest l.number-iterator)) ≡ fold with_number [] (take l.count l.self.numbers.items)

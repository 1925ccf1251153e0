use Rattle.std.proofs.Common.{◌≡◌, []}
use Rattle.std.specs.Prelude.{fold}
use Rattle.std.specs.VecDeque.Iter.{deque_iter_rest}
use Rattle.rights_core.specs.Holds.{told}
use Rattle.rights_core.proofs.recalls.Recalls.unacked.Given as goal

abbrev pub invariant-loop-number : goal.invariant-loop-number
invariant-loop-number l = fold (told l.client l.rights) l.unacked (deque_iter_rest l.number-iterator) ≡ fold (told l.client l.rights) [] l.self.numbers.items

use Rattle.std.proofs.Common.{[], take}
use Rattle.std.specs.Prelude.{fold}
use Rattle.std.specs.VecDeque.Iter.{deque_iter_rest}
use Rattle.rights_core.specs.Holds.{with_number}
use Rattle.rights_core.proofs.Queued.{number_more}
use Rattle.rights_core.proofs.recalls.Recalls.first_in_order.Goals as goal

pub loop-number-preserved : goal.loop-number-preserved
loop-number-preserved c =
    number_more c.loop-number.left c.in-Some.number.now (deque_iter_rest c.loop-number.number-iterator) (deque_iter_rest c.next.new.self) c.loop-number.first (fold with_number [] (take c.args.count c.args.self.now.numbers.items)) c.put.new.self
    c.if-left-eq0.false c.in-Some.ensures.steps c.in_ok-put.ensures.ok c.loop-number.invariant

use Rattle.std.proofs.Common.{None, cond, take}
use Rattle.std.specs.Prelude.{◌==◌, ◌&&◌}
use Rattle.std.specs.List.{list_any}
use Rattle.std.specs.VecDeque.Iter.{deque_iter_rest}
use Rattle.rights_core.specs.Holds.{keeps}
use Rattle.rights_core.specs.Indexes.{number_in}
use Rattle.rights_core.proofs.Queued.{free_more}
use Rattle.rights_core.proofs.keepers.Keepers.free_first.Goals as goal

pub loop-number-preserved : goal.loop-number-preserved
loop-number-preserved c = λ other theirs.
    free_more (other == c.args.client) (keeps theirs c.args.rights.now) c.loop-number.left c.in-Some.number.now (deque_iter_rest c.loop-number.number-iterator) (deque_iter_rest c.next.new.self)
    (number_in other theirs c.loop-number.self) (number_in other theirs c.free_number.new.self) (cond ((other == c.args.client) && list_any (keeps theirs c.args.rights.now) (take c.args.count c.args.numbers.now.items)) None (number_in other theirs c.args.self.now))
    c.if-left-eq0.false c.in-Some.ensures.steps (c.free_number.ensures other theirs) (c.loop-number.invariant other theirs)

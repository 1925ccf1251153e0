use Rattle.std.proofs.Common.{take, drop, ◌∙◌}
use Rattle.rights_core.specs.Holds.{without_all}
use Rattle.rights_core.proofs.Queued.{end_more, left_behind}
use Rattle.rights_core.proofs.recalls.Recalls.end_first.Goals as goal

pub loop-preserved : goal.loop-preserved
loop-preserved c = record {
  rights =
      end_more c.args.count c.loop.counter c.in-Some.number c.loop.self.numbers.items c.pop_front.new.self.items c.loop.rights c.remove.new.self (without_all c.args.rights.now (take c.args.count c.args.self.now.numbers.items)) c.loop-test.true c.in-Some.ensures.items c.remove.ensures.removed c.loop.invariant.rights;
  numbers = left_behind c.args.count c.loop.counter c.in-Some.number c.loop.self.numbers.items c.pop_front.new.self.items (drop c.args.count c.args.self.now.numbers.items) c.loop-test.true c.in-Some.ensures.items c.loop.invariant.numbers;
  capacity = c.in-Some.ensures.capacity ∙ c.loop.invariant.capacity;
  ended = c.loop.invariant.ended;
}

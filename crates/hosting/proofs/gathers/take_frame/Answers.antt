use Rattle.hosting.proofs.Gathering.{does_message, does_tick}
use Rattle.hosting.proofs.gathers.take_frame.Goals as goal

pub returns-in-Message : goal.returns-in-Message
returns-in-Message g c =
    does_message c.args.frame.now _ _ c.answer_held.result c.args.group.now c.answer_held.new.group c.in-Message.is c.answer_held.ensures.answers c.answer_held.ensures.store c.answer_held.ensures.parted

pub returns-in-Tick : goal.returns-in-Tick
returns-in-Tick g c = does_tick c.args.frame.now _ c.settle_held.result c.args.group.now c.settle_held.new.group c.in-Tick.is c.settle_held.ensures.settles c.settle_held.ensures.store c.settle_held.ensures.parted

use Rattle.hosting.specs.Held.{seen}
use Rattle.hosting.proofs.HeldSweeps.{seen_store}
use Rattle.hosting.proofs.PartedLaws.{parts_taken, parts_refused}
use Rattle.hosting.proofs.held.answer_held.Goals as goal

pub returns-in-Ok-clause-answers : goal.returns-in-Ok-clause-answers
returns-in-Ok-clause-answers g c = (seen c.take.new.self, c.in-Ok.ensures.ok, seen_store c.args.group.now c.take.new.self c.take.ensures.same, c.settle_held.ensures.settles)

pub returns-in-Ok-clause-parted : goal.returns-in-Ok-clause-parted
returns-in-Ok-clause-parted g c = parts_taken c.args.now _ c.args.group.now c.take.new.self c.settle_held.new.group _ c.in-Ok.ensures.ok c.take.ensures.same c.settle_held.ensures.parted

pub returns-in-Err-clause-parted : goal.returns-in-Err-clause-parted
returns-in-Err-clause-parted g c = parts_refused c.args.now _ c.args.group.now c.take.new.self c.in-Err.ensures.err

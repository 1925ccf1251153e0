use Rattle.hosting.proofs.Gathering.{does_sent}
use Rattle.hosting.proofs.gathers.take_held.Goals as goal

pub returns-in-Ok : goal.returns-in-Ok
returns-in-Ok g c = does_sent c.args.sent.now _ c.take_frame.result c.args.group.now c.take_frame.new.group c.in-Ok.is c.take_frame.ensures

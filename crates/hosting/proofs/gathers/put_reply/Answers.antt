use Rattle.hosting.proofs.Gathering.{puts_by}
use Rattle.hosting.proofs.gathers.put_reply.Goals as goal

pub returns-in-Ok-clause-told : goal.returns-in-Ok-clause-told
returns-in-Ok-clause-told g c = puts_by _ _ _ _ _ _ c.in-Ok.ensures.deadline c.put_told.ensures

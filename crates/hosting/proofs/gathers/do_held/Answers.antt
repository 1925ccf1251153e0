use Rattle.hosting.proofs.Gathering.{tries_some, tries_none}
use Rattle.hosting.proofs.gathers.do_held.Goals as goal

pub returns-in-Some : goal.returns-in-Some
returns-in-Some g c = tries_some _ _ _ _ _ _ _ _ _ c.in-Some.is c.take_held.ensures c.put_reply-tried.ensures.told c.put_reply-tried.ensures.same

pub returns-in-None : goal.returns-in-None
returns-in-None g c = tries_none _ _ _ _ _ c.in-None.is c.take_held.ensures

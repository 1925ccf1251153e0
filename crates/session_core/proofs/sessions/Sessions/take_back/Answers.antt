use Rattle.std.proofs.Common.{rules}
use Rattle.session_core.proofs.Quiet.{kept_without}
use Rattle.session_core.proofs.sessions.Sessions.take_back.Goals as goal

pub invariant_of-self : goal.invariant_of-self
invariant_of-self g c = kept_without c.self.inside.lease c.self.inside.bounds c.get.result c.self.inside.map.entries _ c.self.invariant c.remove.ensures.updates.0 (search rules)

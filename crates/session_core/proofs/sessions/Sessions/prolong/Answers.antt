use Rattle.std.proofs.Common.{rules}
use Rattle.session_core.proofs.Quiet.{kept_changed}
use Rattle.session_core.proofs.sessions.Sessions.prolong.Goals as goal

pub invariant_of-self-2 : goal.invariant_of-self-2
invariant_of-self-2 g c =
    kept_changed c.self.inside.lease c.self.inside.bounds c.change.new.self c.get-number.result c.in-Some.session.now c.prolong.new.self c.moments-before.result c.moments-after.result c.event_count.result c.self.inside.map.entries (c.get_mut.follows.lender c.prolong.new.self).entries c.self.invariant
    (search rules) c.moments-before.ensures c.moments-after.ensures c.event_count.ensures c.change.ensures.events c.change.ensures.own c.change.ensures.others (search rules)

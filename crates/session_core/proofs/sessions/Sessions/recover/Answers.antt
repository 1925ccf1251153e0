use Rattle.session_core.proofs.Quiet.{kept_with_new}
use Rattle.session_core.proofs.sessions.Sessions.recover.Goals as goal

pub invariant_of-self-2 : goal.invariant_of-self-2
invariant_of-self-2 g c =
    kept_with_new c.self.inside.lease c.self.inside.bounds c.add.new.self c.args.client c.in_ok-session.session c.moments-moments.result c.event_count-events.result c.self.inside.map.entries c.insert.new.self.entries c.self.invariant
    c.moments-moments.ensures c.event_count-events.ensures c.add.ensures.events c.add.ensures.own c.add.ensures.kept c.in_ok-insert.ensures.entries

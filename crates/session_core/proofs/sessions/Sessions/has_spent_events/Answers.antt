use Rattle.session_core.proofs.Quiet.{nobody_is_spent}
use Rattle.session_core.proofs.sessions.Sessions.has_spent_events.Goals as goal

pub returns-then-self-lt-NUMBER_LIMIT : goal.returns-then-self-lt-NUMBER_LIMIT
returns-then-self-lt-NUMBER_LIMIT g c = nobody_is_spent _ c.args.self.now c.self.inside.bounds.most_events c.self.view_is c.self.invariant.3 c.if-self-lt-NUMBER_LIMIT.true

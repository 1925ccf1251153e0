use Rattle.session_core.proofs.Quiet.{kept_turned}
use Rattle.session_core.proofs.sessions.Sessions.note_moment.Goals as goal

pub invariant_of-self : goal.invariant_of-self
invariant_of-self g c = kept_turned c.self.inside.lease c.self.inside.bounds c.turn.new.self c.self.inside.map.entries c.self.invariant c.turn.ensures.events c.turn.ensures.kept

use Rattle.session_core.proofs.Quiet.{kept_again}
use Rattle.session_core.proofs.sessions.Sessions.note_lost.Goals as goal

pub invariant_of-self : goal.invariant_of-self
invariant_of-self g c =
    kept_again c.self.inside.lease c.self.inside.bounds c.note_all.new.bounds c.turn.new.self c.self.inside.map.entries c.self.invariant c.note_all.ensures.events c.note_all.ensures.noted c.turn.ensures.events c.turn.ensures.kept

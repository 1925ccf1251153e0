use Rattle.session_core.proofs.Quiet.{answers_among}
use Rattle.session_core.proofs.sessions.Sessions.due_by.Goals as goal

pub due_among-requires : goal.due_among-requires
due_among-requires g c = answers_among _ c.args.self.now c.self.inside.bounds.ends c.self.inside.bounds.answers c.in-Some.clients.now.keys c.args.spares c.args.now c.self.view_is c.self.invariant.2 c.in-Some.ensures.due

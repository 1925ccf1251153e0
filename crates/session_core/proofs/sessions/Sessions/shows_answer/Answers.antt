use Rattle.std.proofs.Common.{sym, ◌∙◌}
use Rattle.session_core.specs.Session.{is_client_due}
use Rattle.session_core.proofs.Lowest.{chosen_lowest}
use Rattle.session_core.proofs.sessions.Sessions.shows_answer.Goals as goal

pub returns-in-Some : goal.returns-in-Some
returns-in-Some g c =
    λ shown. chosen_lowest c.args.self.now (is_client_due c.args.self.now.lease c.args.now) c.in-Some.client c.due_at.result c.due_at.ensures (sym c.is_some.ensures ∙ shown)

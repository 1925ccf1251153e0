use Rattle.std.proofs.Common.{sym, ◌∙◌}
use Rattle.session_core.specs.Session.{is_client_expired}
use Rattle.session_core.proofs.Lowest.{some_lowest}
use Rattle.session_core.proofs.sessions.Sessions.shows_end.Goals as goal

pub returns-in-Some : goal.returns-in-Some
returns-in-Some g c = λ shown. some_lowest c.args.self.now (is_client_expired c.args.now) c.in-Some.client (sym c.is_expired.ensures ∙ shown)

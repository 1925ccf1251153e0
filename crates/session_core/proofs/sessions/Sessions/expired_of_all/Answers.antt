use Rattle.std.proofs.Common.{Some, None, sym, ◌∙◌}
use Rattle.session_core.specs.Session.{is_client_expired}
use Rattle.session_core.proofs.Lowest.{lowest_is, found, none_left}
use Rattle.session_core.proofs.sessions.Sessions.expired_of_all.Goals as goal

pub returns-then-is_expired-clause-lowest : goal.returns-then-is_expired-clause-lowest
returns-then-is_expired-clause-lowest g c =
    lowest_is _ c.args.self.now (is_client_expired c.args.now) (Some c.in-Some.client.now) c.self.view_is c.iter-client-items.ensures.ordered
    (found (is_client_expired c.args.now) c.args.self.now c.loop-client.client-iterator c.next.new.self c.in-Some.client.now c.in-Some.session.now c.loop-client.invariant c.in-Some.ensures.steps (sym c.is_expired.ensures ∙ c.if-is_expired.true))

pub returns-clause-lowest : goal.returns-clause-lowest
returns-clause-lowest g c =
    lowest_is _ c.args.self.now (is_client_expired c.args.now) None c.self.view_is c.iter-client-items.ensures.ordered
    (none_left (is_client_expired c.args.now) c.args.self.now c.loop-client.client-iterator c.loop-client.invariant c.in-None.ensures.steps.0)

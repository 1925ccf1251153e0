use Rattle.std.proofs.Common.{Some, None, sym, ◌∙◌}
use Rattle.session_core.specs.Session.{is_client_expired}
use Rattle.session_core.proofs.Among.{found_first, first_passed, none_left_of, lowest_from}
use Rattle.session_core.proofs.sessions.Sessions.expired_among.Goals as goal

pub returns-then-is_expired-clause-value : goal.returns-then-is_expired-clause-value
returns-then-is_expired-clause-value g c =
    lowest_from _ c.args.self.now (is_client_expired c.args.now) (Some c.in-Some.client.now) c.self.view_is c.len-ordered.ensures.ordered
    (found_first c.args.self.now (is_client_expired c.args.now) c.loop-client.client-iterator c.next.new.self c.in-Some.client.now c.loop-client.invariant c.in-Some.ensures.steps (sym c.is_expired.ensures ∙ c.if-is_expired.true))

pub returns-then-is_expired-clause-lowest : goal.returns-then-is_expired-clause-lowest
returns-then-is_expired-clause-lowest g c =
    found_first c.args.self.now (is_client_expired c.args.now) c.loop-client.client-iterator c.next.new.self c.in-Some.client.now c.loop-client.invariant c.in-Some.ensures.steps (sym c.is_expired.ensures ∙ c.if-is_expired.true)

pub loop-client-preserved : goal.loop-client-preserved
loop-client-preserved g c =
    first_passed c.args.self.now (is_client_expired c.args.now) c.loop-client.client-iterator c.next.new.self c.in-Some.client.now c.loop-client.invariant c.in-Some.ensures.steps (sym c.is_expired.ensures ∙ c.if-is_expired.false)

pub returns-clause-value : goal.returns-clause-value
returns-clause-value g c =
    lowest_from _ c.args.self.now (is_client_expired c.args.now) None c.self.view_is c.len-ordered.ensures.ordered
    (none_left_of c.args.self.now (is_client_expired c.args.now) c.loop-client.client-iterator c.loop-client.invariant c.in-None.ensures.steps.0)

pub returns-clause-lowest : goal.returns-clause-lowest
returns-clause-lowest g c = none_left_of c.args.self.now (is_client_expired c.args.now) c.loop-client.client-iterator c.loop-client.invariant c.in-None.ensures.steps.0

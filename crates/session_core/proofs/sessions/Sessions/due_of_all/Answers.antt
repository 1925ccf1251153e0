use Rattle.std.proofs.Common.{Some, None}
use Rattle.session_core.specs.Session.{is_client_due_by}
use Rattle.session_core.proofs.Lowest.{lowest_is, none_left, due_found, due_passed}
use Rattle.session_core.proofs.sessions.Sessions.due_of_all.Goals as goal

pub returns-in-Some-due_client-clause-value : goal.returns-in-Some-due_client-clause-value
returns-in-Some-due_client-clause-value g c =
    due_found _ c.args.self.now c.args.spares c.args.now c.loop-number.number-iterator c.next.new.self c.in-Some.number.now c.in-Some.session.now c.in-Some-due_client.client c.self.view_is c.loop-number.invariant c.in-Some.ensures.steps c.in-Some-due_client.ensures

pub returns-in-Some-due_client-clause-lowest : goal.returns-in-Some-due_client-clause-lowest
returns-in-Some-due_client-clause-lowest g c =
    lowest_is _ c.args.self.now (is_client_due_by c.args.spares c.args.self.now.lease c.args.now) (Some c.in-Some-due_client.client) c.self.view_is c.iter-number-items.ensures.ordered
    (due_found _ c.args.self.now c.args.spares c.args.now c.loop-number.number-iterator c.next.new.self c.in-Some.number.now c.in-Some.session.now c.in-Some-due_client.client c.self.view_is c.loop-number.invariant c.in-Some.ensures.steps c.in-Some-due_client.ensures)

pub loop-number-preserved : goal.loop-number-preserved
loop-number-preserved g c =
    due_passed _ c.args.self.now c.args.spares c.args.now c.loop-number.number-iterator c.next.new.self c.in-Some.number.now c.in-Some.session.now c.due_client.result c.self.view_is c.loop-number.invariant c.in-Some.ensures.steps c.in_default.is c.due_client.ensures

pub returns-clause-lowest : goal.returns-clause-lowest
returns-clause-lowest g c =
    lowest_is _ c.args.self.now (is_client_due_by c.args.spares c.args.self.now.lease c.args.now) None c.self.view_is c.iter-number-items.ensures.ordered
    (none_left (is_client_due_by c.args.spares c.args.self.now.lease c.args.now) c.args.self.now c.loop-number.number-iterator c.loop-number.invariant c.in-None.ensures.steps.0)

use Rattle.std.proofs.Common.{Some, None}
use Rattle.session_core.specs.Session.{is_client_due_by}
use Rattle.session_core.proofs.Among.{none_left_of, lowest_from, chosen_first, passed_by}
use Rattle.session_core.proofs.sessions.Sessions.due_among.Goals as goal

pub returns-in-Some-due_at-clause-value : goal.returns-in-Some-due_at-clause-value
returns-in-Some-due_at-clause-value g c =
    lowest_from _ c.args.self.now (is_client_due_by c.args.spares c.args.self.now.lease c.args.now) (Some c.in-Some-due_at.client) c.self.view_is c.len-ordered.ensures.ordered
    (chosen_first c.args.self.now (is_client_due_by c.args.spares c.args.self.now.lease c.args.now) c.loop-number.number-iterator c.next.new.self c.in-Some.number.now c.in-Some-due_at.client c.loop-number.invariant c.in-Some.ensures.steps c.in-Some-due_at.ensures)

pub returns-in-Some-due_at-clause-lowest : goal.returns-in-Some-due_at-clause-lowest
returns-in-Some-due_at-clause-lowest g c =
    chosen_first c.args.self.now (is_client_due_by c.args.spares c.args.self.now.lease c.args.now) c.loop-number.number-iterator c.next.new.self c.in-Some.number.now c.in-Some-due_at.client c.loop-number.invariant c.in-Some.ensures.steps c.in-Some-due_at.ensures

pub loop-number-preserved : goal.loop-number-preserved
loop-number-preserved g c =
    passed_by c.args.self.now (is_client_due_by c.args.spares c.args.self.now.lease c.args.now) c.loop-number.number-iterator c.next.new.self c.in-Some.number.now c.due_at.result c.loop-number.invariant c.in-Some.ensures.steps c.in_default.is c.due_at.ensures

pub returns-clause-value : goal.returns-clause-value
returns-clause-value g c =
    lowest_from _ c.args.self.now (is_client_due_by c.args.spares c.args.self.now.lease c.args.now) None c.self.view_is c.len-ordered.ensures.ordered
    (none_left_of c.args.self.now (is_client_due_by c.args.spares c.args.self.now.lease c.args.now) c.loop-number.number-iterator c.loop-number.invariant c.in-None.ensures.steps.0)

pub returns-clause-lowest : goal.returns-clause-lowest
returns-clause-lowest g c = none_left_of c.args.self.now (is_client_due_by c.args.spares c.args.self.now.lease c.args.now) c.loop-number.number-iterator c.loop-number.invariant c.in-None.ensures.steps.0

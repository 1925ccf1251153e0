use Rattle.std.proofs.Common.{rules, Result, sym, subst}
use Rattle.std.specs.Prelude.{IfOk}
use Rattle.node_core.specs.declared.refusals.Fault.{Fault}
use Rattle.client_core.specs.State.{ClientState}
use Rattle.client_core.specs.Ops.{LeadTo}
use Rattle.client_core.specs.declared.parts.steps.Given.{Given}
use Rattle.client_core.proofs.Leading.{if_ok, left, left_refused}
use Rattle.client_core.proofs.client.Client.ops_left.Goals as goal

pub returns-in_ok-noted-in-Done : goal.returns-in_ok-noted-in-Done
returns-in_ok-noted-in-Done c =
    if_ok c.with_losses.result _ _ (λ more h. left c.args.self.now c.args.moment c.args.reply.now c.args.reply.now.result (search rules) c.in_ok-noted-in-Done.noted.items more.items (search rules) h) c.with_losses.ensures

pub returns-in_default : goal.returns-in_default
returns-in_default c =
    let s = c.args.self.now in let reply = c.args.reply.now in
    let P : ClientState × Result Given Fault → Type 0 = λ r. IfOk c.ops_finished.result (λ ops. LeadTo s.cache ops.items r) in
    subst P (sym (left_refused s c.args.moment reply reply.result (search rules))) c.ops_finished.ensures

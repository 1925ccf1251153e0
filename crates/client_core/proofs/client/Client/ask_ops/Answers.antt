use Rattle.std.proofs.Common.{rules}
use Rattle.client_core.proofs.Leading.{if_ok, asked_at, asked_late}
use Rattle.client_core.proofs.client.Client.ask_ops.Goals as goal

pub returns-in-Ok : goal.returns-in-Ok
returns-in-Ok c =
    if_ok c.ops_asked.result _ _ (λ ops h. asked_at c.args.self.now c.args.now c.in-Ok.moment c.args.asked.now ops.items (search rules) h) c.ops_asked.ensures

pub returns-in-Err : goal.returns-in-Err
returns-in-Err c = asked_late c.args.self.now c.args.now c.args.asked.now c.new.result.items c.in-Err.field-0 (search rules)

use Rattle.std.proofs.Common.{rules}
use Rattle.client_core.proofs.Leading.{if_ok, noting, no_noting, beat_leads}
use Rattle.client_core.proofs.client.Client.note_ops.Goals as goal

pub returns-in-Ok : goal.returns-in-Ok
returns-in-Ok c =
    if_ok c.ops_noted.result _ _ (λ ops h. beat_leads c.args.self.now c.args.now ops.items (noting c.args.self.now c.args.now c.in-Ok.moment ops.items (search rules) h)) c.ops_noted.ensures

pub returns-in-Err : goal.returns-in-Err
returns-in-Err c = beat_leads c.args.self.now c.args.now c.new.result.items (no_noting c.args.self.now c.args.now c.in-Err.field-0 c.new.result.items (search rules))

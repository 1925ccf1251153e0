use Rattle.server_exports.proofs.Numbers.{of_no_client, of_no_call, gives_refused}
use Rattle.server_exports.proofs.written.store_refused.Goals as goal

pub returns-in_default : goal.returns-in_default
returns-in_default c = λ other. of_no_client c.args.client c.args.epoch c.args.number c.in_default.ensures

pub returns-in_default-new : goal.returns-in_default-new
returns-in_default-new c = λ other. of_no_call c.args.client c.args.epoch c.args.number c.in-Some.ensures.0 c.in_default-new.ensures

pub returns : goal.returns
returns c =
    gives_refused c.args.client c.args.epoch c.args.number c.in-Some.client c.in-Some-new.number _ c.in-Some.ensures.0 c.in-Some-new.ensures.0
    c.in-Some.ensures.1 c.in-Some-new.ensures.1 c.write_out-written.ensures.bytes

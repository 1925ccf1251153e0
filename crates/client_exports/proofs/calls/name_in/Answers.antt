use Rattle.client_exports.proofs.Naming.{bad_name}
use Rattle.client_exports.proofs.calls.name_in.Goals as goal

pub returns-in_default : goal.returns-in_default
returns-in_default c = λ other. bad_name c.args.name.now c.in_default.ensures.cases.0

use Rattle.server_exports.proofs.Naming.{bad_component}
use Rattle.server_exports.proofs.rows.component_in.Goals as goal

pub returns-in_default : goal.returns-in_default
returns-in_default c = λ other. bad_component c.args.text.now c.in_default.ensures.cases.0

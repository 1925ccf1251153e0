use Rattle.std.proofs.Common.{rules}
use Rattle.tags_cell.specs.Numbers.{IsClientNumber}
use Rattle.client_exports.proofs.Opening.{bad_text}
use Rattle.client_exports.proofs.held.HeldClient.open.Goals as goal

pub returns-in_default : goal.returns-in_default
returns-in_default c =
    let is : IsClientNumber c.args.number = search rules in
    λ other. bad_text c.args.number c.args.principal.now is c.in_default.ensures.cases.0

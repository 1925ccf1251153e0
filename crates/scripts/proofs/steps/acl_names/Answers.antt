use Rattle.std.proofs.Common.{inl, inr}
use Rattle.names_cell.specs.declared.faults.NameFault.TheVariants.{BadName}
use Rattle.names_cell.specs.Text.{is_component}
use Rattle.scripts.proofs.Written.{unnamed, wrong_acls}
use Rattle.scripts.proofs.steps.acl_names.Goals as goal

pub returns-in_err-parse : goal.returns-in_err-parse
returns-in_err-parse c =
    unnamed _ _ c.from_residual.result c.in_err-parse.field-0.0 BadName (is_component c.args.read.now) c.args.read.now c.from_residual.ensures c.in_err-parse.ensures (λ h. wrong_acls c.args.read.now c.args.write.now c.args.change.now (inl h))

pub returns-in_err-parse-2 : goal.returns-in_err-parse-2
returns-in_err-parse-2 c =
    unnamed _ _ c.from_residual-in_err-parse-2.result c.in_err-parse-2.field-0.0 BadName (is_component c.args.write.now) c.args.write.now c.from_residual-in_err-parse-2.ensures c.in_err-parse-2.ensures (λ h. wrong_acls c.args.read.now c.args.write.now c.args.change.now (inr (inl h)))

pub returns-in_err-parse-3 : goal.returns-in_err-parse-3
returns-in_err-parse-3 c =
    unnamed _ _ c.from_residual-in_err-parse-3.result c.in_err-parse-3.field-0.0 BadName (is_component c.args.change.now) c.args.change.now c.from_residual-in_err-parse-3.ensures c.in_err-parse-3.ensures (λ h. wrong_acls c.args.read.now c.args.write.now c.args.change.now (inr (inr h)))

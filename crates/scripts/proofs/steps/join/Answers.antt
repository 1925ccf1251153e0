use Rattle.names_cell.specs.declared.faults.NameFault.TheVariants.{BadPrincipal}
use Rattle.scripts.proofs.Lifts.{two_words}
use Rattle.scripts.proofs.Written.{unnamed, unnamed_join, no_client}
use Rattle.scripts.proofs.steps.join.Goals as goal

pub returns-in_err-parse : goal.returns-in_err-parse
returns-in_err-parse c =
    unnamed _ _ c.from_residual-in_err-parse.result c.in_err-parse.field-0.0 BadPrincipal _ _ c.from_residual-in_err-parse.ensures c.in_err-parse.ensures
    (unnamed_join _ _ _ c.in_ok-number_of.field-0 c.in_ok-number_of.ensures.0.0 c.in-Some.ensures.0 (two_words c.args.words.now c.in-len2.len_at_least c.in-len2.len_below))

pub returns-in_default-new : goal.returns-in_default-new
returns-in_default-new c =
    no_client _ _ _ c.in_ok-number_of.field-0 c.in_ok-number_of.ensures.0.0 c.in_ok-number_of.ensures.0.1 c.in_default-new.ensures (two_words c.args.words.now c.in-len2.len_at_least c.in-len2.len_below)

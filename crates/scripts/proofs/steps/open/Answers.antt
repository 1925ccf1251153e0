use Rattle.names_cell.specs.declared.faults.NameFault.TheVariants.{BadName}
use Rattle.scripts.proofs.Lifts.{passed, after_two}
use Rattle.scripts.proofs.Written.{unnamed, open_part, unnamed_open, opened}
use Rattle.scripts.proofs.steps.open.Goals as goal

pub returns-in_err-create : goal.returns-in_err-create
returns-in_err-create c =
    passed c.from_residual.result c.in_err-create.field-0.0 c.from_residual.ensures
    (open_part _ _ _ _ c.in-Some.mode c.in-Some.ensures.some.0 c.in-Some.ensures.some.1 (after_two c.args.words.now c.in-len2-up.len_at_least)) c.in_err-create.ensures

pub returns-in_err-name : goal.returns-in_err-name
returns-in_err-name c =
    unnamed _ _ c.from_residual-in_err-name.result c.in_err-name.field-0.0 BadName _ _ c.from_residual-in_err-name.ensures c.in_err-name.ensures
    (unnamed_open _ _ _ _ c.in-Some.mode c.in_ok-create.create c.in_ok-create.delay c.in_ok-create.events c.in-Some.ensures.some.0 c.in-Some.ensures.some.1 (after_two c.args.words.now c.in-len2-up.len_at_least) c.in_ok-create.ensures.0)

pub returns : goal.returns
returns c =
    opened _ _ _ c.in_ok-name.name _ c.in-Some.mode c.in_ok-create.create c.in_ok-create.delay c.in_ok-create.events c.in-Some.ensures.some.0 c.in-Some.ensures.some.1 (after_two c.args.words.now c.in-len2-up.len_at_least) c.in_ok-create.ensures.0 c.in_ok-create.ensures.1 c.in_ok-name.ensures

use Rattle.scripts.proofs.Lifts.{passed, plain, after_one}
use Rattle.scripts.proofs.Written.{content_out, file_part}
use Rattle.scripts.proofs.steps.file_of.Goals as goal

pub returns-in_err-content : goal.returns-in_err-content
returns-in_err-content c =
    plain _ c.from_residual.result c.in_err-content.field-0.0 c.from_residual.ensures (content_out _ _ _ _ _ (after_one c.args.words.now c.in-len1-up.len_at_least)) c.in_err-content.ensures

pub returns-in_err-new_acls : goal.returns-in_err-new_acls
returns-in_err-new_acls c =
    passed c.from_residual-in_err-new_acls.result c.in_err-new_acls.field-0.0 c.from_residual-in_err-new_acls.ensures
    (file_part _ _ _ c.in_ok-content.content c.args.disposition c.args.life (after_one c.args.words.now c.in-len1-up.len_at_least) c.in_ok-content.ensures.0) c.in_err-new_acls.ensures

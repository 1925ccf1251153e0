use Rattle.scripts.proofs.Lifts.{passed}
use Rattle.scripts.proofs.Written.{dir_part}
use Rattle.scripts.proofs.steps.made_of.Goals as goal

pub returns-in_err-new_acls-in-dir : goal.returns-in_err-new_acls-in-dir
returns-in_err-new_acls-in-dir c =
    passed c.from_residual-in_err-new_acls-in-dir.result c.in_err-new_acls-in-dir.field-0.0 c.from_residual-in_err-new_acls-in-dir.ensures
    (dir_part _ _ _ c.in_ok-disposition.disposition c.args.life c.in-dir.is c.in_ok-disposition.ensures.0) c.in_err-new_acls-in-dir.ensures

use Rattle.scripts.proofs.Lifts.{passed}
use Rattle.scripts.proofs.Written.{open_call_part, other_call}
use Rattle.scripts.proofs.steps.call_of.Goals as goal

pub returns-in_err-open-in-open : goal.returns-in_err-open-in-open
returns-in_err-open-in-open c =
    passed c.from_residual.result c.in_err-open-in-open.field-0.0 c.from_residual.ensures (open_call_part _ _ c.in-open.is) c.in_err-open-in-open.ensures

pub returns-in_default : goal.returns-in_default
returns-in_default c = other_call _ _ c.in_default.not-open c.in_default.not-close c.in_default.not-poison c.in_default.not-setseq c.in_default.not-checkseq c.in_default.not-leave c.handle_call.result c.handle_call.ensures

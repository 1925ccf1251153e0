use Rattle.scripts.proofs.Lifts.{passed, plain}
use Rattle.scripts.proofs.Cuts.{options_out, making, making_part}
use Rattle.scripts.proofs.steps.making_of.Goals as goal

pub returns-in_err-delay : goal.returns-in_err-delay
returns-in_err-delay c =
    plain _ c.from_residual.result c.in_err-delay.field-0.0 c.from_residual.ensures (options_out c.args.words.now c.create_length-cut.result c.create_length-cut.ensures) c.in_err-delay.ensures

pub returns-in_err-create : goal.returns-in_err-create
returns-in_err-create c =
    passed c.from_residual-in_err-create.result c.in_err-create.field-0.0 c.from_residual-in_err-create.ensures
    (making_part c.args.words.now c.create_length-cut.result c.in_ok-delay.delay c.in_ok-delay.events c.create_length-cut.ensures c.in_ok-delay.ensures.0) c.in_err-create.ensures

pub returns : goal.returns
returns c =
    (making c.args.words.now c.create_length-cut.result c.in_ok-create.create c.in_ok-delay.delay c.in_ok-delay.events c.in_ok-create.ensures.0 c.in_ok-delay.ensures.0, c.in_ok-create.ensures.1)

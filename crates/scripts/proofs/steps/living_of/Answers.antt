use Rattle.scripts.proofs.Lifts.{plain, after_two}
use Rattle.scripts.proofs.Written.{life_out, living}
use Rattle.scripts.proofs.steps.living_of.Goals as goal

pub returns : goal.returns
returns c = living _ _ _ _ _ c.in_ok-life.life c.in_ok-life.ensures.0 (after_two c.args.words.now c.in-len2-up.len_at_least) c.made_of.result c.made_of.ensures

pub returns-in_err-life : goal.returns-in_err-life
returns-in_err-life c =
    plain _ c.from_residual.result c.in_err-life.field-0.0 c.from_residual.ensures (life_out _ _ _ _ _ (after_two c.args.words.now c.in-len2-up.len_at_least)) c.in_err-life.ensures

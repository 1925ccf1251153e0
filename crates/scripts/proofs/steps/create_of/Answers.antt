use Rattle.scripts.proofs.Lifts.{passed, after_one}
use Rattle.scripts.proofs.Written.{create_part}
use Rattle.scripts.proofs.steps.create_of.Goals as goal

pub returns-in_err-living_of-in-len1-up : goal.returns-in_err-living_of-in-len1-up
returns-in_err-living_of-in-len1-up c =
    passed c.from_residual.result c.in_err-living_of-in-len1-up.field-0.0 c.from_residual.ensures
    (create_part _ _ _ (after_one c.args.words.now c.in-len1-up.len_at_least)) c.in_err-living_of-in-len1-up.ensures

pub returns-in_ok-living_of-in-len1-up : goal.returns-in_ok-living_of-in-len1-up
returns-in_ok-living_of-in-len1-up c =
    ((_, _, after_one c.args.words.now c.in-len1-up.len_at_least, c.in_ok-living_of-in-len1-up.ensures.0), c.in_ok-living_of-in-len1-up.ensures.1)

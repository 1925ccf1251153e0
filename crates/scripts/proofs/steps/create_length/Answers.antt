use Rattle.scripts.proofs.Lifts.{after_one}
use Rattle.scripts.proofs.Cuts.{some_create}
use Rattle.scripts.proofs.steps.create_length.Goals as goal

pub returns-in_default-first : goal.returns-in_default-first
returns-in_default-first c =
    some_create _ _ _ _ (after_one c.args.words.now c.in-len1-up.len_at_least) c.in_default-first.not-delay c.in_default-first.not-events c.node_length.ensures

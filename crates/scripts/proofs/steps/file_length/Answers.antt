use Rattle.scripts.proofs.Lifts.{after_one}
use Rattle.scripts.proofs.Cuts.{file}
use Rattle.scripts.proofs.steps.file_length.Goals as goal

pub returns : goal.returns
returns c = file _ _ _ _ (after_one c.args.words.now c.in-len1-up.len_at_least) c.acls_length.ensures

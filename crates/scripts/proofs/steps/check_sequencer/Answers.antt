use Rattle.scripts.proofs.Lifts.{plain, one_word}
use Rattle.scripts.proofs.Written.{check_out}
use Rattle.scripts.proofs.steps.check_sequencer.Goals as goal

pub returns-in_err-sequencer : goal.returns-in_err-sequencer
returns-in_err-sequencer c =
    plain _ c.from_residual.result c.in_err-sequencer.field-0.0 c.from_residual.ensures (check_out _ _ (one_word c.args.words.now c.in-len1.len_at_least c.in-len1.len_below)) c.in_err-sequencer.ensures

use Rattle.scripts.proofs.Lifts.{plain, two_words}
use Rattle.scripts.proofs.Written.{setting_out}
use Rattle.scripts.proofs.steps.set_sequencer.Goals as goal

pub returns-in_err-sequencer : goal.returns-in_err-sequencer
returns-in_err-sequencer c =
    plain _ c.from_residual-in_err-sequencer.result c.in_err-sequencer.field-0.0 c.from_residual-in_err-sequencer.ensures
    (setting_out _ _ _ (two_words c.args.words.now c.in-len2.len_at_least c.in-len2.len_below)) c.in_err-sequencer.ensures

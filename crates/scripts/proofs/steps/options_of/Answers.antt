use Rattle.std.proofs.Common.{codes, refl}
use Rattle.scripts.proofs.Decimals.{same_text}
use Rattle.scripts.proofs.Lifts.{plain, after_two}
use Rattle.scripts.proofs.Options.{few_words, events_out, delayed}
use Rattle.scripts.proofs.steps.options_of.Goals as goal

pub returns-in_err-events_of : goal.returns-in_err-events_of
returns-in_err-events_of c =
    plain _ c.from_residual.result c.in_err-events_of.field-0.0 c.from_residual.ensures (few_words c.args.words.now c.in_default.len_below) c.in_err-events_of.ensures

pub returns-in_err-events_of-3 : goal.returns-in_err-events_of-3
returns-in_err-events_of-3 c =
    plain _ c.from_residual-in_err-events_of-3.result c.in_err-events_of-3.field-0.0 c.from_residual-in_err-events_of-3.ensures
    (events_out _ _ _ _ (after_two c.args.words.now c.in-len2-up.len_at_least) (same_text _ (codes "delay") c.ne.result c.ne.ensures c.if-ne.false)) c.in_err-events_of-3.ensures

pub returns : goal.returns
returns c =
    (delayed _ _ _ _ c.in_ok-delay.delay c.in_ok-events_of-3.field-0 (after_two c.args.words.now c.in-len2-up.len_at_least) (same_text _ (codes "delay") c.ne.result c.ne.ensures c.if-ne.false) c.in_ok-delay.ensures.0.0 c.in_ok-delay.ensures.0.1 c.in_ok-events_of-3.ensures.0, refl)

use Rattle.scripts.proofs.Lifts.{passed, after_two}
use Rattle.scripts.proofs.Written.{ask_part, ask_written}
use Rattle.scripts.proofs.steps.asked.Goals as goal

pub returns-in_err-call_of : goal.returns-in_err-call_of
returns-in_err-call_of c =
    passed c.from_residual-in_err-call_of.result c.in_err-call_of.field-0.0 c.from_residual-in_err-call_of.ensures
    (ask_part _ _ _ _ c.in_ok-client.client c.in_ok-client.ensures.0.0 c.in_ok-client.ensures.0.1 (after_two c.args.words.now c.in-len2-up.len_at_least)) c.in_err-call_of.ensures

pub returns : goal.returns
returns c =
    (ask_written _ _ _ _ c.in_ok-client.client _ c.in_ok-client.ensures.0.0 c.in_ok-client.ensures.0.1 (after_two c.args.words.now c.in-len2-up.len_at_least) c.in_ok-call_of.ensures.0, c.in_ok-call_of.ensures.1)

use Rattle.scripts.proofs.Lifts.{passed, after_one}
use Rattle.scripts.proofs.Written.{handle_part, handle_written}
use Rattle.scripts.proofs.steps.handle_call.Goals as goal

pub returns-in_err-node_call : goal.returns-in_err-node_call
returns-in_err-node_call c =
    passed c.from_residual-in_err-node_call.result c.in_err-node_call.field-0.0 c.from_residual-in_err-node_call.ensures
    (handle_part _ _ _ _ c.in_ok-handle.handle c.in_ok-handle.ensures.0.0 c.in_ok-handle.ensures.0.1 (after_one c.args.words.now c.in-len1-up.len_at_least)) c.in_err-node_call.ensures

pub returns : goal.returns
returns c =
    (handle_written _ _ _ _ c.in_ok-handle.handle _ c.in_ok-handle.ensures.0.0 c.in_ok-handle.ensures.0.1 (after_one c.args.words.now c.in-len1-up.len_at_least) c.in_ok-node_call.ensures.0, c.in_ok-node_call.ensures.1)

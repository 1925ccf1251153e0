use Rattle.std.proofs.Common.{◌≡◌, ◌++◌, drop}
use Rattle.master_state.specs.Replies.{sent}
use Rattle.master_state.proofs.replies.sent.Given as goal

abbrev pub invariant-loop-reply : goal.invariant-loop-reply
invariant-loop-reply l = l.outs ++ sent (drop l.reply-index l.replies) ≡ sent l.replies

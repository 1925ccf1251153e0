use Rattle.std.proofs.Common.{◌≡◌, ◌++◌, drop}
use Rattle.master_state.specs.Replies.{replies_to}
use Rattle.master_state.proofs.replies.replies_to.Given as goal

abbrev pub invariant-loop-claim : goal.invariant-loop-claim
invariant-loop-claim l = l.replies ++ replies_to l.master l.answer (drop l.claim-index l.claims) ≡ replies_to l.master l.answer l.claims

use Rattle.std.proofs.Common.{arith}
use Rattle.hosting.proofs.Standings.{at_end, at_ten}
use Rattle.hosting.proofs.standing.longest_of.Goals as goal

pub returns-then-len-ge-LONGEST_LIMIT : goal.returns-then-len-ge-LONGEST_LIMIT
returns-then-len-ge-LONGEST_LIMIT c =
    at_ten _ _ c.loop-waiting.waiting-iterator _ c.loop-waiting.invariant.0 c.loop-waiting.invariant.1 (omega (arith, c.if-len-ge-LONGEST_LIMIT.true, c.len.ensures))

pub returns : goal.returns
returns c = at_end _ _ c.loop-waiting.waiting-iterator _ c.in-None.ensures.steps.0 c.loop-waiting.invariant.0 c.loop-waiting.invariant.1

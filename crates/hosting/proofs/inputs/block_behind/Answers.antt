use Rattle.hosting.proofs.Passages.{behind_over}
use Rattle.hosting.proofs.inputs.block_behind.Goals as goal

pub returns-then-count-gt-BLOCK_LIMIT-clause-found : goal.returns-then-count-gt-BLOCK_LIMIT-clause-found
returns-then-count-gt-BLOCK_LIMIT-clause-found g c = (tt, behind_over _ _ c.args.count c.if-count-gt-BLOCK_LIMIT.true c.in_ok-skip.ensures.dropped)

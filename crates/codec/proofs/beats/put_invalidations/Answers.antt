use Rattle.codec.specs.Beats.{invalidation}
use Rattle.codec.proofs.Loops.{writes_more}
use Rattle.codec.proofs.beats.put_invalidations.Goals as goal

pub loop-item-preserved : goal.loop-item-preserved
loop-item-preserved c = writes_more invalidation _ _ _ _ _ _ c.loop-item-test.true c.item-item.is c.loop-item.invariant c.in_ok-put_invalidation.ensures

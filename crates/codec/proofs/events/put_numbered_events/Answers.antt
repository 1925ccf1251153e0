use Rattle.codec.specs.Beats.{numbered_event}
use Rattle.codec.proofs.Loops.{writes_more}
use Rattle.codec.proofs.events.put_numbered_events.Goals as goal

pub loop-item-preserved : goal.loop-item-preserved
loop-item-preserved c = writes_more numbered_event _ _ _ _ _ _ c.loop-item-test.true c.item-item.is c.loop-item.invariant c.in_ok-put_numbered_event.ensures

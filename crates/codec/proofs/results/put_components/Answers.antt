use Rattle.codec.specs.Fields.{component}
use Rattle.codec.proofs.Loops.{writes_more}
use Rattle.codec.proofs.results.put_components.Goals as goal

pub loop-item-preserved : goal.loop-item-preserved
loop-item-preserved c = writes_more component _ _ _ _ _ _ c.loop-item-test.true c.item-item.is c.loop-item.invariant c.in_ok-put_component.ensures

use Rattle.rows_remote.specs.Forms.{edit}
use Rattle.codec.proofs.Loops.{writes_more}
use Rattle.rows_remote.proofs.edits.put_edits.Goals as goal

pub loop-item-preserved : goal.loop-item-preserved
loop-item-preserved c = writes_more edit _ _ _ _ _ _ c.loop-item-test.true c.item-item.is c.loop-item.invariant c.in_ok-put_edit.ensures

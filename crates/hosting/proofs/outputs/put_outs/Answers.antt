use Rattle.std.proofs.Common.{arith}
use Rattle.hosting.specs.Replies.{out_told}
use Rattle.hosting.proofs.Streaming.{puts_none, puts_next, puts_all}
use Rattle.hosting.proofs.outputs.put_outs.Goals as goal

pub loop-message-init : goal.loop-message-init
loop-message-init c = puts_none _

pub loop-message-preserved : goal.loop-message-preserved
loop-message-preserved c =
    puts_next out_told c.args.outs.now c.loop-message.message-index c.message-item.result _ _ _ (omega arith) c.message-item.is c.loop-message.invariant c.in_ok-put_out.ensures

pub returns : goal.returns
returns c = puts_all out_told c.args.outs.now c.loop-message.message-index _ _ (omega arith) c.loop-message.invariant

use Rattle.std.proofs.Common.{arith}
use Rattle.hosting.proofs.Streaming.{puts_none, puts_delay, puts_delays}
use Rattle.hosting.proofs.outputs.put_delays.Goals as goal

pub loop-delay-init : goal.loop-delay-init
loop-delay-init c = puts_none _

pub loop-delay-preserved : goal.loop-delay-preserved
loop-delay-preserved c =
    puts_delay c.args.delays.now c.loop-delay.delay-index c.delay-item.result _ _ _ (omega arith) c.delay-item.is c.loop-delay.invariant c.in_ok-put_delay.ensures

pub returns : goal.returns
returns c = puts_delays c.args.delays.now c.loop-delay.delay-index _ _ (omega arith) c.loop-delay.invariant

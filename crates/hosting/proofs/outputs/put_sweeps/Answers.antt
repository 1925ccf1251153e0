use Rattle.std.proofs.Common.{arith}
use Rattle.hosting.proofs.Streaming.{puts_none, puts_sweep, puts_sweeps, step_at}
use Rattle.hosting.proofs.outputs.put_sweeps.Goals as goal

pub loop-swept-init : goal.loop-swept-init
loop-swept-init c = puts_none _

pub loop-swept-preserved : goal.loop-swept-preserved
loop-swept-preserved c =
    puts_sweep c.args.sweeps.now c.loop-swept.swept-index c.swept-item.result _ _ _ (omega arith) c.swept-item.is c.loop-swept.invariant (step_at _ _ _ _ _ _ c.as_slice.ensures c.as_slice-in-loop-swept.ensures c.in_ok-put_step.ensures)

pub returns : goal.returns
returns c = puts_sweeps c.args.sweeps.now c.loop-swept.swept-index _ _ (omega arith) c.loop-swept.invariant

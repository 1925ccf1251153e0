use Rattle.std.proofs.Common.{arith}
use Rattle.hosting.specs.declared.tellings.MasterFrame.TheVariants.{Touches}
use Rattle.hosting.proofs.Streaming.{puts_none, puts_next, puts_all}
use Rattle.hosting.proofs.outputs.put_names.Goals as goal

pub loop-name-init : goal.loop-name-init
loop-name-init c = puts_none _

pub loop-name-preserved : goal.loop-name-preserved
loop-name-preserved c =
    puts_next Touches c.args.names.now c.loop-name.name-index c.name-item.result _ _ _ (omega arith) c.name-item.is c.loop-name.invariant c.in_ok-put_name.ensures

pub returns : goal.returns
returns c = puts_all Touches c.args.names.now c.loop-name.name-index _ _ (omega arith) c.loop-name.invariant

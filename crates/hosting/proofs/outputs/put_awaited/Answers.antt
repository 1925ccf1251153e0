use Rattle.std.proofs.Common.{◌<◌, length, get_or, arith}
use Rattle.std.proofs.lemmas.List.{get_or_default}
use Rattle.hosting.specs.declared.tellings.MasterFrame.TheVariants.{Awaited}
use Rattle.hosting.proofs.Streaming.{puts_none, puts_next, puts_all}
use Rattle.hosting.proofs.outputs.put_awaited.Goals as goal

pub loop-client-init : goal.loop-client-init
loop-client-init c = puts_none _

pub loop-client-preserved : goal.loop-client-preserved
loop-client-preserved c =
    let xs = c.args.clients.now in
    let i = c.loop-client.client-index in
    let lt : i < length xs = omega arith in
    puts_next Awaited xs i (get_or xs i 0) _ _ _ lt (get_or_default xs i 0 (get_or xs i 0) lt) c.loop-client.invariant c.in_ok-put_client.ensures

pub returns : goal.returns
returns c = puts_all Awaited c.args.clients.now c.loop-client.client-index _ _ (omega arith) c.loop-client.invariant

use Rattle.std.proofs.Common.{take, map}
use Rattle.hosting.specs.declared.tellings.MasterFrame.TheVariants.{Awaited}
use Rattle.hosting.specs.Replies.{Puts}
use Rattle.hosting.proofs.outputs.put_awaited.Given as goal

abbrev pub invariant-loop-client : goal.invariant-loop-client
invariant-loop-client l = Puts (map Awaited (take l.client-index l.clients)) l.fn.out.items l.out.items

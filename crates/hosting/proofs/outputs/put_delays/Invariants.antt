use Rattle.std.proofs.Common.{take}
use Rattle.hosting.specs.Replies.{delays_told, Puts}
use Rattle.hosting.proofs.outputs.put_delays.Given as goal

abbrev pub invariant-loop-delay : goal.invariant-loop-delay
invariant-loop-delay l = Puts (delays_told (take l.delay-index l.delays)) l.fn.out.items l.out.items

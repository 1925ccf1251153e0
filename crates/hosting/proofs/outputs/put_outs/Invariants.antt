use Rattle.std.proofs.Common.{take, map}
use Rattle.hosting.specs.Replies.{out_told, Puts}
use Rattle.hosting.proofs.outputs.put_outs.Given as goal

abbrev pub invariant-loop-message : goal.invariant-loop-message
invariant-loop-message l = Puts (map out_told (take l.message-index l.outs)) l.fn.out.items l.out.items

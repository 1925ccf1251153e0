use Rattle.std.proofs.Common.{take}
use Rattle.hosting.specs.Replies.{sweeps_told, Puts}
use Rattle.hosting.proofs.outputs.put_sweeps.Given as goal

abbrev pub invariant-loop-swept : goal.invariant-loop-swept
invariant-loop-swept l = Puts (sweeps_told (take l.swept-index l.sweeps)) l.fn.out.items l.out.items

use Rattle.hosting.proofs.Passages.{Passed}
use Rattle.hosting.proofs.inputs.skip.Given as goal

abbrev pub invariant-loop-left : goal.invariant-loop-left
invariant-loop-left g l = Passed l.count l.left (g.I.Read.remaining l.fn.reader) (g.I.Read.remaining l.reader)

abbrev pub decreases-loop-left : goal.decreases-loop-left
decreases-loop-left g l = l.left

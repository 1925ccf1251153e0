use Rattle.scripts.specs.Settling.{played}
use Rattle.scripts.specs.Scripts.{Wrote, IsOfPart}
use Rattle.scripts.proofs.scripts.run_lines.Given as goal

-- the lines so far were done, and what they print was written
abbrev pub invariant-loop : goal.invariant-loop
invariant-loop g l =
    Wrote (λ printed. IsOfPart l.fn.lines.rest l.lines.rest l.lines.number l.fn.world printed (played l.world l.delivered)) (g.W.Write.contents l.fn.output) (g.W.Write.contents l.output)

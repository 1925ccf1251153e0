use Rattle.scripts.specs.Settling.{played}
use Rattle.scripts.specs.Scripts.{Wrote}
use Rattle.scripts.specs.Crashing.{IsOfCrashPart}
use Rattle.scripts.proofs.crashes.crashing_lines.Given as goal

-- the lines so far were done, and what they print was written
abbrev pub invariant-loop : goal.invariant-loop
invariant-loop g l =
    Wrote (λ printed. IsOfCrashPart l.fn.lines.rest l.lines.rest l.lines.number l.fn.world printed (played l.world l.delivered)) (g.W.Write.contents l.fn.output) (g.W.Write.contents l.output)

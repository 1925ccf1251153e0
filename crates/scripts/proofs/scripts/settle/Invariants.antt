use Rattle.std.proofs.Common.{ℕ}
use Rattle.scripts.specs.Settling.{played, Turns}
use Rattle.scripts.specs.Scripts.{Wrote}
use Rattle.scripts.proofs.scripts.settle.Given as goal

-- turns so far, each with others after it, and their lines were written
abbrev pub invariant-loop : goal.invariant-loop
invariant-loop g l =
    Wrote (λ printed. (count : ℕ) × Turns count (played l.fn.world l.fn.delivered) printed (played l.world l.delivered)) (g.W.Write.contents l.fn.output) (g.W.Write.contents l.output)

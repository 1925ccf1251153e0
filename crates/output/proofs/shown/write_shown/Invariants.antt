use Rattle.std.proofs.Common.{take, IfSome}
use Rattle.std.specs.Io.KnownBytes.{Appends}
use Rattle.output.proofs.shown.write_shown.Given as goal

-- so many bytes of the text were written
abbrev pub invariant-loop-turn : goal.invariant-loop-turn
invariant-loop-turn g l = IfSome (g.D.Display.output l.value) (λ text. Appends (g.W.Write.contents l.fn.writer) (g.W.Write.contents l.writer) (take l.at text))

use Rattle.std.proofs.Common.{take}
use Rattle.std.specs.Io.KnownBytes.{Appends}
use Rattle.scripts.specs.Scripts.{lines_text}
use Rattle.scripts.proofs.scripts.write_lines.Given as goal

-- the lines so far were written
abbrev pub invariant-loop-line : goal.invariant-loop-line
invariant-loop-line g l = Appends (g.W.Write.contents l.fn.output) (g.W.Write.contents l.output) (lines_text (take l.line-index l.fn.lines))

use Rattle.std.proofs.Common.{take, map}
use Rattle.hosting.specs.Replies.{line_told, Puts}
use Rattle.hosting.proofs.outputs.put_lines.Given as goal

abbrev pub invariant-loop-line : goal.invariant-loop-line
invariant-loop-line l = Puts (map line_told (take l.line-index l.lines)) l.fn.out.items l.out.items

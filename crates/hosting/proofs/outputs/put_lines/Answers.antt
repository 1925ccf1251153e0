use Rattle.std.proofs.Common.{arith}
use Rattle.hosting.specs.Replies.{line_told}
use Rattle.hosting.proofs.Streaming.{puts_none, puts_next, puts_all}
use Rattle.hosting.proofs.outputs.put_lines.Goals as goal

pub loop-line-init : goal.loop-line-init
loop-line-init c = puts_none _

pub loop-line-preserved : goal.loop-line-preserved
loop-line-preserved c =
    puts_next line_told c.args.lines.now c.loop-line.line-index c.line-item.result _ _ _ (omega arith) c.line-item.is c.loop-line.invariant c.in_ok-put_line.ensures

pub returns : goal.returns
returns c = puts_all line_told c.args.lines.now c.loop-line.line-index _ _ (omega arith) c.loop-line.invariant

use Rattle.std.proofs.Common.{arith}
use Rattle.client_exports.proofs.Showing.{bytes_next, bytes_all}
use Rattle.client_exports.proofs.shows.lines_bytes.Goals as goal

pub loop-line-preserved : goal.loop-line-preserved
loop-line-preserved c = bytes_next c.args.lines.now c.loop-line.line-index c.line-item.result _ _ (omega arith) c.line-item.is c.loop-line.invariant c.in_ok-put_line.ensures

pub returns : goal.returns
returns c = bytes_all c.args.lines.now c.loop-line.line-index _ (omega arith) c.loop-line.invariant

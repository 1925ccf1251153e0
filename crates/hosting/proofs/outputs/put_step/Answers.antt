use Rattle.std.proofs.Common.{map}
use Rattle.hosting.specs.Replies.{line_told, out_told}
use Rattle.hosting.proofs.Streaming.{then_puts}
use Rattle.hosting.proofs.outputs.put_step.Goals as goal

pub returns : goal.returns
returns c = then_puts _ (map line_told c.args.lines.now) (map out_told c.args.outs.now) _ _ _ c.in_ok-put_lines.ensures c.put_outs.ensures

use Rattle.std.proofs.Common.{[], ◌∷◌}
use Rattle.node_core.specs.declared.lines.Line.TheVariants as lines
use Rattle.hosting.specs.Replies.{line_told, settled_told}
use Rattle.hosting.proofs.Streaming.{then_puts}
use Rattle.hosting.proofs.outputs.put_arrival.Goals as goal

pub returns : goal.returns
returns c = then_puts _ (line_told (lines.Up c.args.epoch) ∷ []) (settled_told c.args.settled.now) _ _ _ c.in_ok-put_own_line.ensures c.put_settled.ensures

use Rattle.hosting.specs.Replies.{sweeps_told, end_told}
use Rattle.hosting.proofs.Streaming.{then_puts, sweeps_at}
use Rattle.hosting.proofs.outputs.put_round.Goals as goal

pub returns : goal.returns
returns c = then_puts _ (sweeps_told c.args.round.now.sweeps) (end_told c.args.round.now.end) _ _ _ (sweeps_at _ _ _ _ c.as_slice.ensures c.in_ok-put_sweeps.ensures) c.put_end.ensures

use Rattle.hosting.specs.Replies.{round_told}
use Rattle.hosting.proofs.Streaming.{then_puts}
use Rattle.hosting.proofs.outputs.put_settled.Goals as goal

pub returns : goal.returns
returns c = then_puts _ (round_told c.args.settled.now.round) (round_told c.args.settled.now.beats) _ _ _ c.in_ok-put_round.ensures c.put_round-2.ensures

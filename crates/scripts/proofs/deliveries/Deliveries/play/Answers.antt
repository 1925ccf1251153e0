use Rattle.std.proofs.Common.{rules, arith}
use Rattle.scripts.proofs.Turns.{plays_other, plays_unsent}
use Rattle.scripts.proofs.deliveries.Deliveries.play.Goals as goal

pub returns-in_default-clause-made : goal.returns-in_default-clause-made
returns-in_default-clause-made g c =
    plays_other c.args.world.now _ c.args.step.now c.args.self.now c.step.result (search rules) c.step.ensures.made

pub returns-then-place-messages-clause-made : goal.returns-then-place-messages-clause-made
returns-then-place-messages-clause-made g c =
    plays_unsent c.args.world.now _ c.args.step.now c.in-Some.place c.args.self.now c.step-then-place-messages.result (search rules) (search rules) c.step-then-place-messages.ensures.made

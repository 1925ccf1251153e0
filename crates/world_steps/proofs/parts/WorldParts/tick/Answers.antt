use Rattle.std.proofs.Common.{rules}
use Rattle.world_steps.proofs.TickOutcomes.{refused_unjoined, refused_unfair, refused_late}
use Rattle.world_steps.proofs.parts.WorldParts.tick.Goals as goal

pub returns-then-not-are_joined-clause-fault : goal.returns-then-not-are_joined-clause-fault
returns-then-not-are_joined-clause-fault g c = refused_unjoined c.args.self.now c.args.ticks.now (search rules) (search rules)

pub returns-then-not-are_fair-clause-fault : goal.returns-then-not-are_fair-clause-fault
returns-then-not-are_fair-clause-fault g c = refused_unfair c.args.self.now c.args.ticks.now (search rules) (search rules) (search rules)

pub returns-then-goes_past_end-clause-fault : goal.returns-then-goes_past_end-clause-fault
returns-then-goes_past_end-clause-fault g c = refused_late c.args.self.now c.args.ticks.now (search rules) (search rules) (search rules) (search rules)

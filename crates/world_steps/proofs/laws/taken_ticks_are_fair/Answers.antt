use Rattle.world_steps.proofs.FairTicks.{taken_are_fair}
use Rattle.world_steps.proofs.laws.taken_ticks_are_fair.Goals as goal

pub returns : goal.returns
returns c = taken_are_fair

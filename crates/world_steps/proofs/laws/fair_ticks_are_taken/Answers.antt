use Rattle.world_steps.proofs.FairTicks.{fair_are_taken}
use Rattle.world_steps.proofs.laws.fair_ticks_are_taken.Goals as goal

pub returns : goal.returns
returns c = fair_are_taken

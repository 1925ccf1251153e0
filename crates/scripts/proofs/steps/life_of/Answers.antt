use Rattle.std.proofs.Common.{arith}
use Rattle.std.proofs.lemmas.Grind.{common_steps}
use Rattle.scripts.proofs.steps.life_of.Goals as goal

pub returns-in-permanent : goal.returns-in-permanent
returns-in-permanent c = grind (arith, common_steps)

pub returns-in-ephemeral : goal.returns-in-ephemeral
returns-in-ephemeral c = grind (arith, common_steps)

pub returns-in_default : goal.returns-in_default
returns-in_default c = grind (arith, common_steps)

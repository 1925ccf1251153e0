use Rattle.std.proofs.Common.{arith}
use Rattle.std.proofs.lemmas.Grind.{common_steps}
use Rattle.scripts.proofs.steps.disposition_of.Goals as goal

pub returns-in-may : goal.returns-in-may
returns-in-may c = grind (arith, common_steps)

pub returns-in-must : goal.returns-in-must
returns-in-must c = grind (arith, common_steps)

pub returns-in_default : goal.returns-in_default
returns-in_default c = grind (arith, common_steps)

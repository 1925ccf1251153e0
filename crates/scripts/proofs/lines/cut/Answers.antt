use Rattle.std.proofs.Common.{arith}
use Rattle.std.proofs.lemmas.Grind.{common_steps}
use Rattle.scripts.proofs.lines.cut.Goals as goal

pub returns-then-index-eq10 : goal.returns-then-index-eq10
returns-then-index-eq10 c = grind (arith, common_steps)

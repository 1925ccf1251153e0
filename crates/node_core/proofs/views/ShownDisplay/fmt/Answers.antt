use Rattle.std.proofs.Common.{arith}
use Rattle.std.proofs.lemmas.Grind.{common_steps}
use Rattle.node_core.proofs.views.ShownDisplay.fmt.Goals as goal

pub returns-in-File-clause-writes : goal.returns-in-File-clause-writes
returns-in-File-clause-writes g c = grind (arith, common_steps)

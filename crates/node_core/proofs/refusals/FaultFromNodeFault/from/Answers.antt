use Rattle.std.proofs.Common.{rules}
use Rattle.node_core.proofs.refusals.FaultFromNodeFault.from.Goals as goal

pub returns-in-StaleInstance : goal.returns-in-StaleInstance
returns-in-StaleInstance c = search rules

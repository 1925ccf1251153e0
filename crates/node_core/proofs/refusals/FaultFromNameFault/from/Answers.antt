use Rattle.std.proofs.Common.{rules}
use Rattle.node_core.proofs.refusals.FaultFromNameFault.from.Goals as goal

pub returns-in-BadAcl : goal.returns-in-BadAcl
returns-in-BadAcl c = search rules

use Rattle.std.proofs.Common.{rules}
use Rattle.node_core.proofs.access.permitted.Goals as goal

pub returns : goal.returns
returns c = search rules

use Rattle.std.proofs.Common.{rules}
use Rattle.node_core.proofs.texts.AclNamesTextDisplay.fmt.Goals as goal

pub returns-clause-writes : goal.returns-clause-writes
returns-clause-writes g c = search rules

use Rattle.std.proofs.Common.{rules}
use Rattle.node_core.proofs.maps.Map.put.Goals as goal

pub returns-clause-former : goal.returns-clause-former
returns-clause-former c = search rules

use Rattle.std.proofs.Common.{rules}
use Rattle.node_core.proofs.maps.Map.parent_misfit.Goals as goal

pub returns : goal.returns
returns c = search rules

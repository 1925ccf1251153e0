use Rattle.std.proofs.Common.{rules}
use Rattle.node_core.proofs.maps.limit_misfit.Goals as goal

pub returns-then-node-gt-NUMBER_LIMIT : goal.returns-then-node-gt-NUMBER_LIMIT
returns-then-node-gt-NUMBER_LIMIT c = search rules

pub returns : goal.returns
returns c = search rules

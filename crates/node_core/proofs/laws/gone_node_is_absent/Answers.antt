use Rattle.node_core.proofs.Changes.{gone_node_is_absent as law}
use Rattle.node_core.proofs.laws.gone_node_is_absent.Goals as goal

pub returns : goal.returns
returns c = law

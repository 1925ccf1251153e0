use Rattle.node_core.proofs.Changes.{put_node_is_there as law}
use Rattle.node_core.proofs.laws.put_node_is_there.Goals as goal

pub returns : goal.returns
returns c = law

use Rattle.node_core.proofs.Changes.{no_put_without_parent as law}
use Rattle.node_core.proofs.laws.no_put_without_a_parent.Goals as goal

pub returns : goal.returns
returns c = law

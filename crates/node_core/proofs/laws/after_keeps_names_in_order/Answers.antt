use Rattle.node_core.proofs.Changes.{names_stay_in_order as law}
use Rattle.node_core.proofs.laws.after_keeps_names_in_order.Goals as goal

pub returns : goal.returns
returns c = law

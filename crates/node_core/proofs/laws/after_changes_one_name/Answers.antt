use Rattle.node_core.proofs.Changes.{other_names_stay as law}
use Rattle.node_core.proofs.laws.after_changes_one_name.Goals as goal

pub returns : goal.returns
returns c = law

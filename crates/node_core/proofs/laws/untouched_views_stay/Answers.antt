use Rattle.node_core.proofs.Seen.{untouched_views_stay as law}
use Rattle.node_core.proofs.laws.untouched_views_stay.Goals as goal

pub returns : goal.returns
returns c = law

use Rattle.node_core.proofs.Seen.{put_shows_its_view as law}
use Rattle.node_core.proofs.laws.put_shows_its_view.Goals as goal

pub returns : goal.returns
returns c = law

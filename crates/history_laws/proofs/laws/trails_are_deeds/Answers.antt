use Rattle.history_laws.proofs.Hosted.{trails_are}
use Rattle.history_laws.proofs.laws.trails_are_deeds.Goals as goal

pub returns : goal.returns
returns c = trails_are

use Rattle.history_laws.proofs.Hosted.{frames_are}
use Rattle.history_laws.proofs.laws.frames_are_deeds.Goals as goal

pub returns : goal.returns
returns c = frames_are

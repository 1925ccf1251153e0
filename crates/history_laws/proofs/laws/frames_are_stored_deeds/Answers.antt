use Rattle.history_laws.proofs.RefusedFrames.{frames_are_over}
use Rattle.history_laws.proofs.laws.frames_are_stored_deeds.Goals as goal

pub returns : goal.returns
returns c = frames_are_over

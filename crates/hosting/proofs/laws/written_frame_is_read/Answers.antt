use Rattle.codec.proofs.FormLaws.{written_is_read}
use Rattle.hosting.proofs.FrameLaws.{frame_form}
use Rattle.hosting.proofs.laws.written_frame_is_read.Goals as goal

pub returns : goal.returns
returns c = λ sent bytes holds e. written_is_read frame_form sent bytes holds e

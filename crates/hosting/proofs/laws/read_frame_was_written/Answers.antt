use Rattle.codec.proofs.FormLaws.{read_was_written}
use Rattle.hosting.proofs.FrameLaws.{frame_form}
use Rattle.hosting.proofs.laws.read_frame_was_written.Goals as goal

pub returns : goal.returns
returns c = λ bytes sent fits e. read_was_written frame_form bytes sent fits e

use Rattle.codec.proofs.FormLaws.{read_was_written}
use Rattle.rows_remote.proofs.FrameForms.{asked_form}
use Rattle.rows_remote.proofs.laws.read_asked_was_written.Goals as goal

pub returns : goal.returns
returns c = λ a b c d. read_was_written asked_form a b c d

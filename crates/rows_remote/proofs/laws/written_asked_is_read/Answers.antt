use Rattle.codec.proofs.FormLaws.{written_is_read}
use Rattle.rows_remote.proofs.FrameForms.{asked_form}
use Rattle.rows_remote.proofs.laws.written_asked_is_read.Goals as goal

pub returns : goal.returns
returns c = λ a b c d. written_is_read asked_form a b c d

use Rattle.codec.proofs.FormLaws.{read_was_written}
use Rattle.rows_remote.proofs.FrameForms.{answer_form}
use Rattle.rows_remote.proofs.laws.read_answer_was_written.Goals as goal

pub returns : goal.returns
returns c = λ a b c d. read_was_written answer_form a b c d

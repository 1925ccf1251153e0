use Rattle.codec.proofs.FormLaws.{written_is_read}
use Rattle.hosting.proofs.ToldLaws.{told_form}
use Rattle.hosting.proofs.laws.written_told_is_read.Goals as goal

pub returns : goal.returns
returns c = λ given bytes holds e. written_is_read told_form given bytes holds e

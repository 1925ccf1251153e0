use Rattle.codec.proofs.FormLaws.{written_is_read}
use Rattle.codec.proofs.RequestLaws.{request_form}
use Rattle.codec.proofs.laws.written_request_is_read.Goals as goal

pub returns : goal.returns
returns c = λ message bytes holds e. written_is_read request_form message bytes holds e

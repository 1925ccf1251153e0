use Rattle.codec.proofs.OutLaws.{written_out_is_read}
use Rattle.codec.proofs.laws.written_out_is_read.Goals as goal

pub returns : goal.returns
returns c = λ message bytes holds e. written_out_is_read message bytes holds e

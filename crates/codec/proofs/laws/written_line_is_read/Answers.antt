use Rattle.codec.proofs.LineLaws.{written_line_is_read}
use Rattle.codec.proofs.laws.written_line_is_read.Goals as goal

pub returns : goal.returns
returns c = λ printed bytes holds e. written_line_is_read printed bytes holds e

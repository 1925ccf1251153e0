use Rattle.codec.proofs.LineLaws.{read_line_was_written}
use Rattle.codec.proofs.laws.read_line_was_written.Goals as goal

pub returns : goal.returns
returns c = λ bytes printed fits e. read_line_was_written bytes printed fits e

use Rattle.codec.proofs.OutLaws.{read_out_was_written}
use Rattle.codec.proofs.laws.read_out_was_written.Goals as goal

pub returns : goal.returns
returns c = λ bytes message fits e. read_out_was_written bytes message fits e

use Rattle.codec.proofs.FormLaws.{read_was_written}
use Rattle.codec.proofs.RequestLaws.{request_form}
use Rattle.codec.proofs.laws.read_request_was_written.Goals as goal

pub returns : goal.returns
returns c = λ bytes message fits e. read_was_written request_form bytes message fits e

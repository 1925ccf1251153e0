use Rattle.codec.proofs.FormLaws.{read_was_written}
use Rattle.hosting.proofs.ToldLaws.{told_form}
use Rattle.hosting.proofs.laws.read_told_was_written.Goals as goal

pub returns : goal.returns
returns c = λ bytes given fits e. read_was_written told_form bytes given fits e

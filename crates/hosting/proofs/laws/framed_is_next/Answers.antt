use Rattle.hosting.proofs.BlockLaws.{framed_next}
use Rattle.hosting.proofs.laws.framed_is_next.Goals as goal

pub returns : goal.returns
returns c = λ bytes rest le. framed_next bytes rest le

use Rattle.hosting.specs.Told.{told}
use Rattle.hosting.proofs.BlockLaws.{written_next}
use Rattle.hosting.proofs.laws.told_is_next.Goals as goal

pub returns : goal.returns
returns c = λ given bytes rest e. written_next told given bytes rest e

use Rattle.cell_core.proofs.Within.{limits_hold as law}
use Rattle.cell_core.proofs.laws.limits_hold.Goals as goal

pub returns : goal.returns
returns c = λ s client number call sequencer ordered sorted. law s ordered sorted client number call sequencer

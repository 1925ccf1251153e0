use Rattle.cell_core.proofs.Limited.{limits_only_refuse as law}
use Rattle.cell_core.proofs.laws.limits_only_refuse.Goals as goal

pub returns : goal.returns
returns c = law

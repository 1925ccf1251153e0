use Rattle.master_laws.proofs.Limited.{cells_stay_within as law}
use Rattle.master_laws.proofs.limits.cells_stay_within.Goals as goal

pub returns : goal.returns
returns c = law

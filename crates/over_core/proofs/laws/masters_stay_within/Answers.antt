use Rattle.over_core.proofs.Limited.{masters_stay_within as law}
use Rattle.over_core.proofs.laws.masters_stay_within.Goals as goal

pub returns : goal.returns
returns c = law

use Rattle.rights_core.proofs.TwoNames.{asking_leaves_others as law}
use Rattle.rights_core.proofs.laws.asking_leaves_others.Goals as goal

pub returns : goal.returns
returns c = law

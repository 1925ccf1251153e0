use Rattle.rights_core.proofs.WholeList.{totals_rise_by_leaves as law}
use Rattle.rights_core.proofs.laws.totals_rise_by_leaves.Goals as goal

pub returns : goal.returns
returns c = law

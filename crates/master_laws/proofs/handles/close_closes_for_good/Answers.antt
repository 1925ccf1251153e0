use Rattle.master_laws.proofs.ClosesForGood.{close_closes_for_good as law}
use Rattle.master_laws.proofs.handles.close_closes_for_good.Goals as goal

pub returns : goal.returns
returns c = law

use Rattle.master_laws.proofs.ClosedBySweeps.{closed_for_good_by_sweeps as law}
use Rattle.master_laws.proofs.handles.closed_for_good_by_sweeps.Goals as goal

pub returns : goal.returns
returns c = law

use Rattle.master_laws.proofs.LeavesAtOnce.{leave_waits_beside as law}
use Rattle.master_laws.proofs.leaves.leave_waits_beside.Goals as goal

pub returns : goal.returns
returns c = law

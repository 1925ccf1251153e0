use Rattle.master_laws.proofs.LeavesAtOnce.{leave_ends_session as law}
use Rattle.master_laws.proofs.leaves.leave_ends_session.Goals as goal

pub returns : goal.returns
returns c = law

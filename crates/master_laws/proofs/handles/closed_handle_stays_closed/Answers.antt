use Rattle.master_laws.proofs.ClosedByMessages.{closed_handle_stays_closed as law}
use Rattle.master_laws.proofs.handles.closed_handle_stays_closed.Goals as goal

pub returns : goal.returns
returns c = law

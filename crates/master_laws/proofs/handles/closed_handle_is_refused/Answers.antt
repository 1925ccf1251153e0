use Rattle.master_laws.proofs.ClosedCalls.{closed_handle_is_refused as law}
use Rattle.master_laws.proofs.handles.closed_handle_is_refused.Goals as goal

pub returns : goal.returns
returns c = law

use Rattle.master_laws.proofs.ClosedByMessages.{closed_for_good_by_messages as law}
use Rattle.master_laws.proofs.handles.closed_for_good_by_messages.Goals as goal

pub returns : goal.returns
returns c = law

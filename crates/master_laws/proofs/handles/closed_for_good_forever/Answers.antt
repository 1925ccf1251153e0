use Rattle.master_laws.proofs.ClosedForever.{closed_for_good_forever as law}
use Rattle.master_laws.proofs.handles.closed_for_good_forever.Goals as goal

pub returns : goal.returns
returns c = law

use Rattle.master_laws.proofs.Closes.{close_closes as law}
use Rattle.master_laws.proofs.handles.close_closes.Goals as goal

pub returns : goal.returns
returns c = law

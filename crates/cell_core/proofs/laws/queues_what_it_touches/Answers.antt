use Rattle.cell_core.proofs.Told.{call_touches as law}
use Rattle.cell_core.proofs.laws.queues_what_it_touches.Goals as goal

pub returns : goal.returns
returns c = law

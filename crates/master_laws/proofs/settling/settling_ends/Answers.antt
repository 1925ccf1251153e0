use Rattle.master_laws.proofs.Settled.{settling_ends as law}
use Rattle.master_laws.proofs.settling.settling_ends.Goals as goal

pub returns : goal.returns
returns c = law

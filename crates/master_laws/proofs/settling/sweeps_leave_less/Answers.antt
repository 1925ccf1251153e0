use Rattle.master_laws.proofs.Settled.{sweeps_leave_less as law}
use Rattle.master_laws.proofs.settling.sweeps_leave_less.Goals as goal

pub returns : goal.returns
returns c = law

use Rattle.master_laws.proofs.CountedSweeps.{sweeps_are_counted as law}
use Rattle.master_laws.proofs.settling.sweeps_are_counted.Goals as goal

pub returns : goal.returns
returns c = law

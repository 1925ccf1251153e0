use Rattle.master_laws.proofs.RecoveryEnds.{recoveries_end as law}
use Rattle.master_laws.proofs.waits.recoveries_end.Goals as goal

pub returns : goal.returns
returns c = law

use Rattle.master_laws.proofs.Instances.{a_change_waits as law}
use Rattle.master_laws.proofs.waits.a_change_waits.Goals as goal

pub returns : goal.returns
returns c = law

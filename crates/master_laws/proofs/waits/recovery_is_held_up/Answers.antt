use Rattle.master_laws.proofs.RecoveryEnds.{recovery_is_held_up as law}
use Rattle.master_laws.proofs.waits.recovery_is_held_up.Goals as goal

pub returns : goal.returns
returns c = law

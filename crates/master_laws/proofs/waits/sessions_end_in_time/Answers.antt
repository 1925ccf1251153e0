use Rattle.master_laws.proofs.HeldUp.{sessions_end_in_time as law}
use Rattle.master_laws.proofs.waits.sessions_end_in_time.Goals as goal

pub returns : goal.returns
returns c = law

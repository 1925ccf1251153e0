use Rattle.master_laws.proofs.Silent.{silent_sessions_end as law}
use Rattle.master_laws.proofs.waits.silent_sessions_end.Goals as goal

pub returns : goal.returns
returns c = law

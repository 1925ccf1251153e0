use Rattle.master_laws.proofs.Silent.{silent_clients_hold_nothing as law}
use Rattle.master_laws.proofs.waits.silent_clients_hold_nothing.Goals as goal

pub returns : goal.returns
returns c = law

use Rattle.master_laws.proofs.ForgottenClients.{forgotten_stay_forgotten as law}
use Rattle.master_laws.proofs.forgotten.forgotten_stay_forgotten.Goals as goal

pub returns : goal.returns
returns c = law

use Rattle.master_laws.proofs.ForgottenClients.{who_goes_has_ended as law}
use Rattle.master_laws.proofs.forgotten.who_goes_has_ended.Goals as goal

pub returns : goal.returns
returns c = law

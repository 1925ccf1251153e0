use Rattle.master_laws.proofs.Owing.{rights_come_back as law}
use Rattle.master_laws.proofs.waits.rights_come_back.Goals as goal

pub returns : goal.returns
returns c = law

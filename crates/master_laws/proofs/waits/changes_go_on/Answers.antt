use Rattle.master_laws.proofs.ChangesGo.{changes_go_on as law}
use Rattle.master_laws.proofs.waits.changes_go_on.Goals as goal

pub returns : goal.returns
returns c = law

use Rattle.history_laws.proofs.GoOn.{masters_go}
use Rattle.history_laws.proofs.masters.masters_go_on.Goals as goal

pub returns : goal.returns
returns c = masters_go

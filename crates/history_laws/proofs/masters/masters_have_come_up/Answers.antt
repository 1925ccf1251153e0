use Rattle.history_laws.proofs.ComeUp.{masters_have}
use Rattle.history_laws.proofs.masters.masters_have_come_up.Goals as goal

pub returns : goal.returns
returns c = masters_have

use Rattle.history_laws.proofs.WorldsUp.{worlds_have}
use Rattle.history_laws.proofs.masters.worlds_have_come_up.Goals as goal

pub returns : goal.returns
returns c = worlds_have

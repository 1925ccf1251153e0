use Rattle.history_laws.proofs.Histories.{hold}
use Rattle.history_laws.proofs.laws.histories_hold.Goals as goal

pub returns : goal.returns
returns c = hold

use Rattle.history_laws.proofs.Crashes.{crashed_hold}
use Rattle.history_laws.proofs.laws.crashed_histories_hold.Goals as goal

pub returns : goal.returns
returns c = crashed_hold

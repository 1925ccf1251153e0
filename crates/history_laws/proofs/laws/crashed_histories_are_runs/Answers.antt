use Rattle.history_laws.proofs.Crashes.{crashed_are_runs}
use Rattle.history_laws.proofs.laws.crashed_histories_are_runs.Goals as goal

pub returns : goal.returns
returns c = crashed_are_runs

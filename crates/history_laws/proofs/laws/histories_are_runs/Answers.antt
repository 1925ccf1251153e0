use Rattle.history_laws.proofs.Histories.{are_runs}
use Rattle.history_laws.proofs.laws.histories_are_runs.Goals as goal

pub returns : goal.returns
returns c = are_runs

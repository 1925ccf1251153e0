use Rattle.history_laws.proofs.Crashes.{crashed_show}
use Rattle.history_laws.proofs.laws.caches_show_what_crashes_leave.Goals as goal

pub returns : goal.returns
returns c = crashed_show

use Rattle.history_laws.proofs.Crashes.{crashed_answer}
use Rattle.history_laws.proofs.laws.caches_answer_what_crashes_leave.Goals as goal

pub returns : goal.returns
returns c = crashed_answer

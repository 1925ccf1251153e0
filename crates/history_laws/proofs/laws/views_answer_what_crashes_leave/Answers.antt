use Rattle.history_laws.proofs.KeptCrashes.{crashed_views}
use Rattle.history_laws.proofs.laws.views_answer_what_crashes_leave.Goals as goal

pub returns : goal.returns
returns c = crashed_views

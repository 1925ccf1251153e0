use Rattle.history_laws.proofs.KeptCrashes.{views_answer}
use Rattle.history_laws.proofs.laws.views_answer_the_rows.Goals as goal

pub returns : goal.returns
returns c = views_answer

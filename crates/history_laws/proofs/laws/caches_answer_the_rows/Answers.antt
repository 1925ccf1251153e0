use Rattle.history_laws.proofs.Histories.{caches_answer}
use Rattle.history_laws.proofs.laws.caches_answer_the_rows.Goals as goal

pub returns : goal.returns
returns c = caches_answer

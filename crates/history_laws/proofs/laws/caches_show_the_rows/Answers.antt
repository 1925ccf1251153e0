use Rattle.history_laws.proofs.Histories.{caches_show}
use Rattle.history_laws.proofs.laws.caches_show_the_rows.Goals as goal

pub returns : goal.returns
returns c = caches_show

use Rattle.history_laws.proofs.Crashes.{refused_may_stand}
use Rattle.history_laws.proofs.laws.refused_rows_may_stand.Goals as goal

pub returns : goal.returns
returns c = refused_may_stand

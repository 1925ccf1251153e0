use Rattle.master_laws.proofs.TurnedAway.{turned_away_changes_nothing as law}
use Rattle.master_laws.proofs.refusals.turned_away_changes_nothing.Goals as goal

pub returns : goal.returns
returns c = law

use Rattle.history_laws.proofs.Grouped.{groups_are}
use Rattle.history_laws.proofs.laws.groups_are_deeds.Goals as goal

pub returns : goal.returns
returns c = groups_are

use Rattle.history_laws.proofs.Lost.{lost_groups_are}
use Rattle.history_laws.proofs.laws.lost_groups_are_ends.Goals as goal

pub returns : goal.returns
returns c = lost_groups_are

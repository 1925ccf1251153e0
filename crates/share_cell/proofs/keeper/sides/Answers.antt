use Rattle.share_cell.proofs.Turning.{opens}
use Rattle.share_cell.proofs.keeper.sides.Goals as goal

pub new-requires-clause-rule : goal.new-requires-clause-rule
new-requires-clause-rule c = opens _ c.in_ok-with_room.ensures

use Rattle.world_cell.proofs.Shown.{answers_are_shown as law}
use Rattle.world_cell.proofs.answers.answers_are_shown.Goals as goal

pub returns : goal.returns
returns c = law

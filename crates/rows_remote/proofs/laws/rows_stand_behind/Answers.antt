use Rattle.rows_remote.proofs.Pieces.{rows_behind}
use Rattle.rows_remote.proofs.laws.rows_stand_behind.Goals as goal

pub returns : goal.returns
returns c = λ a. rows_behind a

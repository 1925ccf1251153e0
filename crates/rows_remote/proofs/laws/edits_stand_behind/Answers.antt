use Rattle.rows_remote.proofs.Pieces.{edits_behind}
use Rattle.rows_remote.proofs.laws.edits_stand_behind.Goals as goal

pub returns : goal.returns
returns c = λ a b c d e. edits_behind a b c d e

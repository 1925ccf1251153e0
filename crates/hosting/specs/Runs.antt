-- Messages that are answered, one after the other.
use Rattle.std.specs.Prelude.{◌≡◌, List, [], ◌∷◌}
use Rattle.over_core.specs.Kept.{CellState}
use Rattle.hosting.specs.declared.runs.TimedRequest.{TimedRequest}
use Rattle.hosting.specs.declared.answers.Answered.{Answered}
use Rattle.hosting.specs.Serving.{Answers}

abbrev pub Serves : CellState → List TimedRequest → List Answered → CellState → Type 0
Serves old [] [] new = new ≡ old
Serves old (message ∷ rest) (given ∷ others) new = (mid : CellState) × Answers message.now message.request old given mid × Serves mid rest others new
Serves old [] (given ∷ others) new = ⊥
Serves old (message ∷ rest) [] new = ⊥

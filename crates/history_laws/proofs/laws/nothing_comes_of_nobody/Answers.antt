use Rattle.history_laws.proofs.Example.{nothing_comes}
use Rattle.history_laws.proofs.laws.nothing_comes_of_nobody.Goals as goal

pub returns : goal.returns
returns c = nothing_comes

use Rattle.history_laws.proofs.Example.{two_are_possible}
use Rattle.history_laws.proofs.laws.two_programs_are_possible.Goals as goal

pub returns : goal.returns
returns c = two_are_possible

use Rattle.history_laws.proofs.Unheard.{unheard_are}
use Rattle.history_laws.proofs.laws.unheard_are_as_untold.Goals as goal

pub returns : goal.returns
returns c = unheard_are

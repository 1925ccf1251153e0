use Rattle.client_core.proofs.Numbered.{shared_numbers_rise as law}
use Rattle.client_core.proofs.laws.shared_numbers_rise.Goals as goal

pub returns : goal.returns
returns c = law

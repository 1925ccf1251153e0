use Rattle.client_core.proofs.Numbered.{handle_numbers_rise as law}
use Rattle.client_core.proofs.laws.handle_numbers_rise.Goals as goal

pub returns : goal.returns
returns c = law

use Rattle.client_core.proofs.Numbered.{handle_numbers_stay as law}
use Rattle.client_core.proofs.laws.handle_numbers_stay.Goals as goal

pub returns : goal.returns
returns c = law

use Rattle.master_laws.proofs.GivenHandles.{given_handle_is_open as law}
use Rattle.master_laws.proofs.opens.given_handle_is_open.Goals as goal

pub returns : goal.returns
returns c = law

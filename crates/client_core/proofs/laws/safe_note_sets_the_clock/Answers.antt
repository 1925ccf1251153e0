use Rattle.client_core.proofs.Noting.{safe_note_sets_the_clock as law}
use Rattle.client_core.proofs.laws.safe_note_sets_the_clock.Goals as goal

pub returns : goal.returns
returns c = law

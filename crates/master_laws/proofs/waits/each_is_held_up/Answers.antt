use Rattle.master_laws.proofs.HeldUp.{each_is_held_up as law}
use Rattle.master_laws.proofs.waits.each_is_held_up.Goals as goal

pub returns : goal.returns
returns c = law

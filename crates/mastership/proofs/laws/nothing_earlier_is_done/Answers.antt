use Rattle.mastership.proofs.Histories.{nothing_earlier}
use Rattle.mastership.proofs.laws.nothing_earlier_is_done.Goals as goal

pub returns : goal.returns
returns c = nothing_earlier

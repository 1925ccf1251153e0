use Rattle.mastership.proofs.Takings.{given_once}
use Rattle.mastership.proofs.laws.a_number_is_given_once.Goals as goal

pub returns : goal.returns
returns c = given_once

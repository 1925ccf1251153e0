use Rattle.hosting.proofs.Carried.{carried_read}
use Rattle.hosting.proofs.laws.carried_is_read.Goals as goal

pub returns : goal.returns
returns c = λ moment bytes holds short. carried_read moment bytes holds short

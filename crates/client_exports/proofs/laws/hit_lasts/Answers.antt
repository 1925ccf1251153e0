use Rattle.client_exports.proofs.Hitting.{hits_last}
use Rattle.client_exports.proofs.laws.hit_lasts.Goals as goal

pub returns : goal.returns
returns c = hits_last

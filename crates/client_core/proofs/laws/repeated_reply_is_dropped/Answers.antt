use Rattle.client_core.proofs.Numbered.{repeated_reply_is_dropped as law}
use Rattle.client_core.proofs.laws.repeated_reply_is_dropped.Goals as goal

pub returns : goal.returns
returns c = law

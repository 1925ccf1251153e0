use Rattle.over_core.proofs.Later.{tells_of_sweeps}
use Rattle.over_core.proofs.laws.quiet_tells_of_sweeps.Goals as goal

pub returns : goal.returns
returns c = tells_of_sweeps

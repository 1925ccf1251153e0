use Rattle.std.proofs.Common.{rules}
use Rattle.master_state.proofs.masters.Master.epoch.Goals as goal

pub returns : goal.returns
returns c = search rules

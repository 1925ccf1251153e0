use Rattle.std.proofs.Common.{rules}
use Rattle.master_state.proofs.masters.Master.is_full.Goals as goal

pub returns : goal.returns
returns c = search rules

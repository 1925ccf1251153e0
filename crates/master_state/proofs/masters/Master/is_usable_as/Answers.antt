use Rattle.std.proofs.Common.{rules}
use Rattle.master_state.proofs.masters.Master.is_usable_as.Goals as goal

pub returns-in-Some-Closed : goal.returns-in-Some-Closed
returns-in-Some-Closed c = search rules

pub returns-in-None : goal.returns-in-None
returns-in-None c = search rules

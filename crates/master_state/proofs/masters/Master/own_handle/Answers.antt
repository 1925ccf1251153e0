use Rattle.std.proofs.Common.{rules}
use Rattle.master_state.proofs.masters.Master.own_handle.Goals as goal

pub returns-then-is_usable : goal.returns-then-is_usable
returns-then-is_usable c = search rules

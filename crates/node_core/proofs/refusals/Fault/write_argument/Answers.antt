use Rattle.std.proofs.Common.{rules}
use Rattle.node_core.proofs.refusals.Fault.write_argument.Goals as goal

pub returns-in-Held : goal.returns-in-Held
returns-in-Held g c = search rules

use Rattle.std.proofs.Common.{rules}
use Rattle.node_core.proofs.refusals.Fault.name.Goals as goal

pub returns-in-Held : goal.returns-in-Held
returns-in-Held c = search rules

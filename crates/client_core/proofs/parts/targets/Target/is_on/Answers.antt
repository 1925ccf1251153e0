use Rattle.std.proofs.Common.{rules}
use Rattle.client_core.proofs.parts.targets.Target.is_on.Goals as goal

pub returns-in-Handle : goal.returns-in-Handle
returns-in-Handle c = search rules

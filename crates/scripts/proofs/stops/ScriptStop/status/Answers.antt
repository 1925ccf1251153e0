use Rattle.std.proofs.Common.{rules}
use Rattle.scripts.proofs.stops.ScriptStop.status.Goals as goal

pub returns-in-BadStep : goal.returns-in-BadStep
returns-in-BadStep c = search rules

use Rattle.std.proofs.Common.{rules}
use Rattle.world_steps.proofs.parts.WorldParts.is_up.Goals as goal

pub returns : goal.returns
returns g c = search rules

use Rattle.std.proofs.Common.{rules}
use Rattle.world_steps.proofs.parts.WorldParts.new.Goals as goal

pub returns-clause-is : goal.returns-clause-is
returns-clause-is g c = search rules

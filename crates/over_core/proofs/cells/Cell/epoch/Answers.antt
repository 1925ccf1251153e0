use Rattle.std.proofs.Common.{rules}
use Rattle.over_core.proofs.cells.Cell.epoch.Goals as goal

pub returns : goal.returns
returns g c = search rules

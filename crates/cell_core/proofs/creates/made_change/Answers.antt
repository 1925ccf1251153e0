use Rattle.std.proofs.Common.{rules}
use Rattle.cell_core.proofs.creates.made_change.Goals as goal

pub returns : goal.returns
returns c = search rules

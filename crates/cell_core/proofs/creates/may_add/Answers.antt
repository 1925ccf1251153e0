use Rattle.std.proofs.Common.{rules}
use Rattle.cell_core.proofs.creates.may_add.Goals as goal

pub returns : goal.returns
returns c = search rules

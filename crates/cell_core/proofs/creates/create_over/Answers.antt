use Rattle.std.proofs.Common.{rules}
use Rattle.cell_core.proofs.creates.create_over.Goals as goal

pub returns-in-Must : goal.returns-in-Must
returns-in-Must c = search rules

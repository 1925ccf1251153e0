use Rattle.std.proofs.Common.{rules}
use Rattle.cell_core.proofs.cells.MemoryMaster.of_rows.Goals as goal

pub returns : goal.returns
returns c = search rules

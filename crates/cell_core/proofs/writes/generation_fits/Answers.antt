use Rattle.std.proofs.Common.{rules}
use Rattle.cell_core.proofs.writes.generation_fits.Goals as goal

pub returns-in-Some : goal.returns-in-Some
returns-in-Some c = search rules

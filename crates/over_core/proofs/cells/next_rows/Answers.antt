use Rattle.std.proofs.Common.{rules}
use Rattle.over_core.proofs.cells.next_rows.Goals as goal

pub returns-clause-ok : goal.returns-clause-ok
returns-clause-ok g c = search rules

pub returns-clause-sound : goal.returns-clause-sound
returns-clause-sound g c = search rules

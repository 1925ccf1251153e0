use Rattle.std.proofs.Common.{rules}
use Rattle.rows_cell.proofs.settings.Settings.lease.Goals as goal

pub returns-clause-lease : goal.returns-clause-lease
returns-clause-lease c = search rules

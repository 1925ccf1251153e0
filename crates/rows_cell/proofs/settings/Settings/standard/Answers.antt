use Rattle.std.proofs.Common.{rules}
use Rattle.rows_cell.proofs.settings.Settings.standard.Goals as goal

pub returns : goal.returns
returns c = search rules

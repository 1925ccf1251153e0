use Rattle.std.proofs.Common.{rules}
use Rattle.names_cell.proofs.paths.Name.is_root.Goals as goal

pub returns : goal.returns
returns c = search rules

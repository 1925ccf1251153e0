use Rattle.std.proofs.Common.{rules}
use Rattle.names_cell.proofs.paths.Name.is_child_of.Goals as goal

pub returns-in-Some : goal.returns-in-Some
returns-in-Some c = search rules

use Rattle.std.proofs.Common.{rules}
use Rattle.names_cell.proofs.paths.NameOrd.cmp.Goals as goal

pub returns : goal.returns
returns c = search rules

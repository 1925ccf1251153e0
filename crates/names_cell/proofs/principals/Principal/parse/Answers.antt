use Rattle.std.proofs.Common.{rules}
use Rattle.names_cell.proofs.principals.Principal.parse.Goals as goal

pub returns-then-not-is_component : goal.returns-then-not-is_component
returns-then-not-is_component c = search rules

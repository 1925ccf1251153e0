use Rattle.std.proofs.Common.{rules}
use Rattle.names_cell.proofs.principals.Principal.as_str.Goals as goal

pub returns-clause-text : goal.returns-clause-text
returns-clause-text c = search rules

pub returns-clause-component : goal.returns-clause-component
returns-clause-component c = search rules

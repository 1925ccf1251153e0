use Rattle.std.proofs.Common.{rules}
use Rattle.names_cell.proofs.grammar.is_component.Goals as goal

pub returns : goal.returns
returns c = search rules

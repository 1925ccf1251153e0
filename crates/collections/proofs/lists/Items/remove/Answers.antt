use Rattle.std.proofs.Common.{rules}
use Rattle.collections.proofs.lists.Items.remove.Goals as goal

pub returns-clause-rest : goal.returns-clause-rest
returns-clause-rest g c = search rules

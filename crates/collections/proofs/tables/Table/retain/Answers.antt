use Rattle.std.proofs.Common.{rules}
use Rattle.collections.proofs.tables.Table.retain.Goals as goal

pub returns : goal.returns
returns g c = search rules

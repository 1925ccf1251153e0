use Rattle.std.proofs.Common.{rules}
use Rattle.collections.proofs.tables.Table.get.Goals as goal

pub returns : goal.returns
returns g c = search rules

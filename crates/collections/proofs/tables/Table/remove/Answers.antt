use Rattle.std.proofs.Common.{rules}
use Rattle.collections.proofs.tables.Table.remove.Goals as goal

pub returns-clause-former : goal.returns-clause-former
returns-clause-former g c = search rules

pub returns-clause-removed : goal.returns-clause-removed
returns-clause-removed g c = search rules

use Rattle.std.proofs.Common.{rules}
use Rattle.collections.proofs.tables.Table.replace.Goals as goal

pub returns-clause-found : goal.returns-clause-found
returns-clause-found g c = search rules

pub returns-clause-set : goal.returns-clause-set
returns-clause-set g c = search rules

pub returns-clause-absent : goal.returns-clause-absent
returns-clause-absent g c = search rules

use Rattle.std.proofs.Common.{rules}
use Rattle.cell_core.proofs.writes.with_acls.Goals as goal

pub returns : goal.returns
returns c = search rules

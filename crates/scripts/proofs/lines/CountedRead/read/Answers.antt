use Rattle.std.proofs.Common.{rules}
use Rattle.scripts.proofs.lines.CountedRead.read.Goals as goal

pub returns-clause-left : goal.returns-clause-left
returns-clause-left g c = search rules

use Rattle.std.proofs.Common.{rules}
use Rattle.collections.proofs.contents.BytesPartialEq.eq.Goals as goal

pub returns : goal.returns
returns c = search rules

use Rattle.std.proofs.Common.{rules}
use Rattle.collections.proofs.contents.Bytes.copy_of.Goals as goal

pub returns : goal.returns
returns c = search rules

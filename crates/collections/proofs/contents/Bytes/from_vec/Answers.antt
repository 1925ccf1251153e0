use Rattle.std.proofs.Common.{rules}
use Rattle.collections.proofs.contents.Bytes.from_vec.Goals as goal

pub returns : goal.returns
returns c = search rules

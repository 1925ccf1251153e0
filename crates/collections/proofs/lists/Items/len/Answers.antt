use Rattle.std.proofs.Common.{rules}
use Rattle.collections.proofs.lists.Items.len.Goals as goal

pub returns : goal.returns
returns g c = search rules

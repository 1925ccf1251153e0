use Rattle.std.proofs.Common.{rules}
use Rattle.scripts.proofs.words.mode.Goals as goal

pub returns-in-wc-clause-some : goal.returns-in-wc-clause-some
returns-in-wc-clause-some c = search rules

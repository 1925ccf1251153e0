use Rattle.std.proofs.Common.{rules}
use Rattle.master_parts.proofs.calls.set_answer.Goals as goal

pub returns : goal.returns
returns c = search rules

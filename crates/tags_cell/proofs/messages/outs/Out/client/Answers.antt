use Rattle.std.proofs.Common.{rules}
use Rattle.tags_cell.proofs.messages.outs.Out.client.Goals as goal

pub returns-in-Reply : goal.returns-in-Reply
returns-in-Reply c = search rules

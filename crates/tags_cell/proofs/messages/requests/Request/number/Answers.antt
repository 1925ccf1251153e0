use Rattle.std.proofs.Common.{rules}
use Rattle.tags_cell.proofs.messages.requests.Request.number.Goals as goal

pub returns-in-Call : goal.returns-in-Call
returns-in-Call c = search rules

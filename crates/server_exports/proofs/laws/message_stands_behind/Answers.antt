use Rattle.server_exports.proofs.Behind.{message_behind}
use Rattle.server_exports.proofs.laws.message_stands_behind.Goals as goal

pub returns : goal.returns
returns c = λ block number message fits e. message_behind block number message fits e

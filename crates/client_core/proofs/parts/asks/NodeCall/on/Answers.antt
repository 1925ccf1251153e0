use Rattle.std.proofs.Common.{rules}
use Rattle.client_core.proofs.parts.asks.NodeCall.on.Goals as goal

pub returns : goal.returns
returns c = search rules

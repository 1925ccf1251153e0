use Rattle.std.proofs.Common.{rules}
use Rattle.node_core.proofs.nodes.Node.acl.Goals as goal

pub returns-in-Write : goal.returns-in-Write
returns-in-Write c = search rules

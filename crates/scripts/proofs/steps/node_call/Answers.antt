use Rattle.scripts.proofs.Written.{other_node_call}
use Rattle.scripts.proofs.steps.node_call.Goals as goal

pub returns-in_default : goal.returns-in_default
returns-in_default c = other_node_call _ _ c.in_default.not-acquire c.in_default.not-try c.plain_call.result c.plain_call.ensures

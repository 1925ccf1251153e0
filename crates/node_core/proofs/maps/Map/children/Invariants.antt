use Rattle.std.proofs.Common.{length}
use Rattle.node_core.proofs.Reach.{Reached}
use Rattle.node_core.proofs.maps.Map.children.Given as goal

abbrev pub invariant-loop-child : goal.invariant-loop-child
invariant-loop-child l = Reached l.self l.name l.names l.entries

abbrev pub decreases-loop-child : goal.decreases-loop-child
decreases-loop-child l = length l.entries

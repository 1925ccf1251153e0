use Rattle.std.proofs.Common.{[]}
use Rattle.node_core.proofs.Walks.{Walked}
use Rattle.node_core.proofs.maps.Map.has_children.Given as goal

abbrev pub invariant-loop-child : goal.invariant-loop-child
invariant-loop-child l = Walked l.self l.name [] l.child-iterator

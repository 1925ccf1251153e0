use Rattle.master_parts.proofs.NamedNodes.{AreCollected}
use Rattle.master_parts.proofs.nodes.names_of.Given as goal

abbrev pub invariant-loop-name : goal.invariant-loop-name
invariant-loop-name l = AreCollected l.map l.name-iterator l.names

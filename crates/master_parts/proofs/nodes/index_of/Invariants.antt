use Rattle.std.proofs.Common.{◌≡◌, true}
use Rattle.master_parts.proofs.IndexedNodes.{AreIndexedBefore}
use Rattle.master_parts.proofs.nodes.index_of.Given as goal

abbrev pub invariant-loop-name : goal.invariant-loop-name
invariant-loop-name l = l.index.complete ≡ true → AreIndexedBefore l.map l.name-iterator l.index.names

use Rattle.std.proofs.Common.{◌≡◌, ◌+◌}
use Rattle.node_core.specs.Room.{content_bytes}
use Rattle.node_core.proofs.maps.Map.counted_bytes.Given as goal

abbrev pub invariant-loop-node : goal.invariant-loop-node
invariant-loop-node l = l.sum + content_bytes l.node-iterator ≡ content_bytes l.self

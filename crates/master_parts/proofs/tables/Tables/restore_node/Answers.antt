use Rattle.std.proofs.Common.{subst}
use Rattle.node_core.specs.Nodes.{Nodes, HasNamesInOrder}
use Rattle.master_parts.proofs.Moved.{by_restore}
use Rattle.master_parts.proofs.tables.Tables.restore_node.Goals as goal

pub invariant_of-self : goal.invariant_of-self
invariant_of-self c =
    let P : Nodes → Type 0 = λ ns. HasNamesInOrder ns in
    let ordered : HasNamesInOrder c.self.inside.nodes = subst P c.map.ensures c.as_map-nodes.ensures.ordered in
    by_restore c.self.inside.handles c.self.inside.sessions c.self.inside.queue c.self.inside.nodes c.restore.new.self c.self.inside.candidates c.lose_node.new.candidates c.args.name.now c.args.former ordered.in_order c.restore.ensures c.lose_node.ensures.found c.lose_node.ensures.has c.lose_node.ensures.leads c.self.invariant

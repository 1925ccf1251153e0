use Rattle.std.proofs.Common.{subst}
use Rattle.node_core.specs.Nodes.{Nodes, HasNamesInOrder}
use Rattle.master_parts.proofs.Moved.{by_unset}
use Rattle.master_parts.proofs.tables.Tables.unset_node.Goals as goal

pub invariant_of-self : goal.invariant_of-self
invariant_of-self c =
    let P : Nodes → Type 0 = λ ns. HasNamesInOrder ns in
    let ordered : HasNamesInOrder c.self.inside.nodes = subst P c.map.ensures c.as_map-nodes.ensures.ordered in
    by_unset c.self.inside.handles c.self.inside.sessions c.self.inside.queue c.self.inside.nodes c.unset-former.new.self c.self.inside.candidates c.add_parent.new.candidates c.args.name.now ordered.in_order c.unset-former.ensures.after c.add_parent.ensures.own (λ i q apart h. c.add_parent.ensures.leads i q (c.forget_node.ensures.leads i q apart h)) (λ q apart h. c.add_parent.ensures.kept q (c.forget_node.ensures.kept q apart h)) c.self.invariant

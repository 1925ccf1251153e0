use Rattle.master_parts.proofs.NamedNodes.{named_after, named_still}
use Rattle.master_parts.proofs.IndexedNodes.{indexed_after, indexed_same}
use Rattle.master_parts.proofs.nodes.Nodes.set.Goals as goal

pub invariant_of-self-in_err-add : goal.invariant_of-self-in_err-add
invariant_of-self-in_err-add c = (
  λ t.
      named_still c.self.inside.map c.self.inside.ephemerals c.add_name.new.names c.args.name c.args.node c.in_ok-add_name.ensures.ok (c.self.invariant.0 t),
  λ t.
      indexed_same c.self.inside.map c.self.inside.index.names c.add.new.self.names c.add.ensures.others (c.self.invariant.1 (c.add.ensures.complete t)),
)

pub invariant_of-self-2 : goal.invariant_of-self-2
invariant_of-self-2 c = (
  λ t.
      named_after c.set.result c.self.inside.map c.set.new.self c.self.inside.ephemerals c.add_name.new.names c.args.name c.args.node c.in_ok-add_name.ensures.ok c.set.ensures.ok c.set.ensures.err (c.self.invariant.0 t),
  λ t.
      indexed_after c.set.result c.self.inside.map c.set.new.self c.self.inside.index.names c.add.new.self.names c.args.name c.args.node c.add.ensures.others (c.in_ok-add.ensures.own t) c.set.ensures.ok c.set.ensures.err (c.self.invariant.1 (c.add.ensures.complete t)),
)

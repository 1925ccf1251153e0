use Rattle.std.proofs.Common.{rules, sym, ◌∙◌}
use Rattle.std.specs.List.Sorted.{IsStrictlySortedBy}
use Rattle.std.specs.Map.{keys_of}
use Rattle.std.specs.Cmp.Lexicographic.{slice_cmp}
use Rattle.std.specs.Ordering.{nat_cmp}
use Rattle.node_core.specs.Nodes.{HasNamesInOrder}
use Rattle.master_parts.specs.EphemeralNames.{NameTable}
use Rattle.master_parts.proofs.NamedNodes.{named_without}
use Rattle.master_parts.proofs.IndexedNodes.{indexed_without}
use Rattle.master_parts.proofs.nodes.Nodes.unset.Goals as goal

pub invariant_of-self : goal.invariant_of-self
invariant_of-self c =
    let ordered : HasNamesInOrder c.self.inside.map = c.as_map-nodes.ensures.ordered in (
      λ t.
          let P : NameTable → Type 0 = λ l. IsStrictlySortedBy (slice_cmp nat_cmp) (keys_of l) in
          let in_order : P c.self.inside.ephemerals = search rules in
          named_without c.self.inside.map c.unset-former.new.self c.self.inside.ephemerals c.remove.new.self c.args.name.now c.unset-former.ensures.after c.remove.ensures.removed ordered.in_order in_order (c.self.invariant.0 t),
      λ t.
          indexed_without c.self.inside.map c.unset-former.new.self c.self.inside.index.names c.remove-2.new.self.names c.args.name.now c.unset-former.result c.unset-former.ensures.after c.unset-former.ensures.former c.remove-2.ensures.names ordered.in_order (c.self.invariant.1 (sym c.remove-2.ensures.complete ∙ t)),
    )

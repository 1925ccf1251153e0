use Rattle.std.proofs.Common.{◌≡◌, rules, sym, ap, ◌∙◌}
use Rattle.std.specs.List.Sorted.{IsStrictlySortedBy}
use Rattle.std.specs.Map.{keys_of}
use Rattle.std.specs.Cmp.Lexicographic.{slice_cmp}
use Rattle.std.specs.Ordering.{nat_cmp}
use Rattle.node_core.specs.Nodes.{HasNamesInOrder}
use Rattle.master_parts.specs.EphemeralNames.{NameTable}
use Rattle.master_parts.proofs.NamedNodes.{named_again}
use Rattle.master_parts.proofs.IndexedNodes.{indexed_again}
use Rattle.master_parts.proofs.nodes.Nodes.restore.Goals as goal
use Rattle.master_parts.proofs.nodes.Nodes.restore.Goals.{then-not-restore_name, else-not-restore_name}

pub invariant_of-self : goal.invariant_of-self
invariant_of-self c =
    let P : NameTable → Type 0 = λ l. IsStrictlySortedBy (slice_cmp nat_cmp) (keys_of l) in
    let ordered : HasNamesInOrder c.self.inside.map = c.as_map-nodes.ensures.ordered in
    let in_order : P c.self.inside.ephemerals = search rules in
    elim c.if-not-restore_name.branch [
      | then-not-restore_name w ↦ (
        λ t. let e = ap (λ x. x.complete) w.self-inside-is in absurd (cc),
        λ t.
            indexed_again c.self.inside.map c.if-not-restore_name.self-inside.map c.restore-2.new.self c.self.inside.index.names c.if-not-restore_name.self-inside.index.names c.restore.new.self.names c.args.name.now c.args.former (ap (λ x. x.map) w.self-inside-is) (ap (λ x. x.index.names) w.self-inside-is) c.restore.ensures.names c.restore-2.ensures ordered.in_order (c.restore.ensures.own t) (c.self.invariant.1 (sym (ap (λ x. x.index.complete) w.self-inside-is) ∙ c.restore.ensures.complete t)),
      )
      | else-not-restore_name w ↦ (
        λ t.
            named_again c.self.inside.map c.if-not-restore_name.self-inside.map c.restore-2.new.self c.self.inside.ephemerals c.restore_name.new.names c.if-not-restore_name.self-inside.ephemerals c.args.name.now c.args.former (ap (λ x. x.map) w.self-inside-is) c.restore_name.ensures.after (ap (λ x. x.ephemerals) w.self-inside-is) c.restore-2.ensures ordered.in_order in_order (c.restore_name.ensures.named w.if-not-restore_name.false) (c.self.invariant.0 (sym (ap (λ x. x.complete) w.self-inside-is) ∙ t)),
        λ t.
            indexed_again c.self.inside.map c.if-not-restore_name.self-inside.map c.restore-2.new.self c.self.inside.index.names c.if-not-restore_name.self-inside.index.names c.restore.new.self.names c.args.name.now c.args.former (ap (λ x. x.map) w.self-inside-is) (ap (λ x. x.index.names) w.self-inside-is) c.restore.ensures.names c.restore-2.ensures ordered.in_order (c.restore.ensures.own t) (c.self.invariant.1 (sym (ap (λ x. x.index.complete) w.self-inside-is) ∙ c.restore.ensures.complete t)),
      )
    ]

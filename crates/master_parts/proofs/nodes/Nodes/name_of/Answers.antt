use Rattle.std.proofs.Common.{◌≡◌, rules, true, false, Some, None, sym, ap, ◌∙◌}
use Rattle.node_core.specs.Nodes.{Nodes, HasNamesInOrder}
use Rattle.master_parts.specs.NameIndex.{name_of, stands_at, indexed_name}
use Rattle.master_parts.proofs.IndexedNodes.{none_indexed, indexed_stands, indexed_gone_none}
use Rattle.master_parts.proofs.nodes.Nodes.name_of.Goals as goal

pub returns-in_default : goal.returns-in_default
returns-in_default c =
    let ordered : HasNamesInOrder c.self.inside.map = c.as_map-nodes.ensures.ordered in
    let same : c.self.inside.map ≡ c.args.self.now = search rules in
    let none : indexed_name c.self.inside.index.names c.args.instance ≡ None = sym c.in_default.ensures in
    none_indexed c.self.inside.map c.self.inside.index.names c.args.instance ordered.in_order (c.self.invariant.1 c.if-not-self.false) none ∙ ap (λ (ns : Nodes). name_of ns c.args.instance) same

pub returns-then-stands_at : goal.returns-then-stands_at
returns-then-stands_at c =
    let ordered : HasNamesInOrder c.self.inside.map = c.as_map-nodes.ensures.ordered in
    let same : c.self.inside.map ≡ c.args.self.now = search rules in
    let noted : indexed_name c.self.inside.index.names c.args.instance ≡ Some c.in-Some.name.now = sym c.in-Some.ensures in
    let stands : stands_at c.self.inside.map c.in-Some.name.now c.args.instance ≡ true = sym c.stands_at.ensures ∙ c.if-stands_at.true in
    indexed_stands c.self.inside.map c.self.inside.index.names c.args.instance ordered.in_order (c.self.invariant.1 c.if-not-self.false) c.in-Some.name.now noted stands ∙ ap (λ (ns : Nodes). name_of ns c.args.instance) same

pub returns-else-stands_at : goal.returns-else-stands_at
returns-else-stands_at c =
    let ordered : HasNamesInOrder c.self.inside.map = c.as_map-nodes.ensures.ordered in
    let same : c.self.inside.map ≡ c.args.self.now = search rules in
    let noted : indexed_name c.self.inside.index.names c.args.instance ≡ Some c.in-Some.name.now = sym c.in-Some.ensures in
    let gone : stands_at c.self.inside.map c.in-Some.name.now c.args.instance ≡ false = sym c.stands_at.ensures ∙ c.if-stands_at.false in
    indexed_gone_none c.self.inside.map c.self.inside.index.names c.args.instance ordered.in_order (c.self.invariant.1 c.if-not-self.false) c.in-Some.name.now noted gone ∙ ap (λ (ns : Nodes). name_of ns c.args.instance) same

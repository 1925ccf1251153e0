use Rattle.std.proofs.Common.{rules, ap, subst, ◌∙◌}
use Rattle.std.specs.List.Sorted.{IsStrictlySortedBy}
use Rattle.std.specs.Map.{keys_of}
use Rattle.std.specs.Cmp.Lexicographic.{slice_cmp}
use Rattle.std.specs.Ordering.{nat_cmp}
use Rattle.node_core.specs.Nodes.{Nodes, HasNamesInOrder}
use Rattle.master_parts.specs.EphemeralNames.{NameTable, AreNamed}
use Rattle.master_parts.proofs.FirstIdle.{first_named, by_value}
use Rattle.master_parts.proofs.Kept.{is_short_lived}
use Rattle.master_parts.proofs.tables.Tables.first_of_ephemerals.Goals as goal

pub returns-in-Some : goal.returns-in-Some
returns-in-Some c =
    let P : NameTable → Type 0 = λ l. IsStrictlySortedBy (slice_cmp nat_cmp) (keys_of l) in
    let Q : Nodes → Type 0 = λ l. AreNamed l c.in-Some.names.now in
    let ordered : HasNamesInOrder c.args.self.now.nodes = search rules in
    let in_order : P c.in-Some.names.now = search rules in
    let named : AreNamed c.args.self.now.nodes c.in-Some.names.now = subst Q (ap (λ s. s.nodes) c.self.view_is) (c.ephemerals.ensures c.in-Some.names.now (search rules)) in
    by_value _ _ c.first_among.result _ _ c.first_among.ensures (λ idle is. is ∙ first_named c.args.self.now c.in-Some.names.now ordered.in_order in_order (λ q w there is. named q w there (is_short_lived c.args.self.now q w is)))

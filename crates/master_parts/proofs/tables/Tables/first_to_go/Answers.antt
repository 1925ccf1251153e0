use Rattle.std.proofs.Common.{rules, subst, ◌∙◌}
use Rattle.std.specs.List.Sorted.{IsStrictlySortedBy}
use Rattle.std.specs.Map.{keys_of}
use Rattle.std.specs.Cmp.Lexicographic.{slice_cmp}
use Rattle.std.specs.Ordering.{nat_cmp}
use Rattle.node_core.specs.Nodes.{HasNamesInOrder}
use Rattle.master_parts.specs.EphemeralNames.{NameTable}
use Rattle.master_parts.specs.State.{TableState}
use Rattle.master_parts.specs.Candidates.{HaveToGo}
use Rattle.master_parts.proofs.FirstIdle.{first_named, by_value}
use Rattle.master_parts.proofs.tables.Tables.first_to_go.Goals as goal

pub returns-in-Some : goal.returns-in-Some
returns-in-Some c =
    let P : NameTable → Type 0 = λ l. IsStrictlySortedBy (slice_cmp nat_cmp) (keys_of l) in
    let ordered : HasNamesInOrder c.args.self.now.nodes = search rules in
    let in_order : P c.in-Some.names.now = search rules in
    let Q : TableState → Type 0 = λ t. HaveToGo t c.self.inside.candidates in
    let to_go : Q c.args.self.now = subst Q c.self.view_is c.self.invariant.to_go in
    by_value _ _ c.first_among.result _ _ c.first_among.ensures (λ idle is. is ∙ first_named c.args.self.now c.in-Some.names.now ordered.in_order in_order (λ q w there moves. c.names.ensures c.in-Some.names.now (search rules) q (to_go q w there moves)))

use Rattle.std.proofs.Common.{sym, ◌∙◌}
use Rattle.node_core.proofs.Walks.{no_first, no_walk}
use Rattle.node_core.proofs.Reach.{no_last, reach_forward, reach_start, reach_below, reach_push, reach_skip, reach_done, jump_forward, reach_jump, reach_jump_ends}
use Rattle.node_core.proofs.maps.Map.children.Goals as goal

pub returns-in_default : goal.returns-in_default
returns-in_default c =
    no_walk c.args.self.now c.args.name.now c.new-names.result c.as_map-nodes.ensures.ordered c.new-names.ensures
    (no_first c.args.name.now c.in_ok-least.field-0 c.in_ok-least.ensures c.in_default.is)

pub returns-in_default-2 : goal.returns-in_default-2
returns-in_default-2 c =
    no_walk c.args.self.now c.args.name.now c.new-names.result c.as_map-nodes.ensures.ordered c.new-names.ensures
    (no_last c.args.name.now c.in_ok-greatest.field-0 c.in_ok-greatest.ensures c.in_default-2.is)

pub range-entries-requires : goal.range-entries-requires
range-entries-requires c =
    reach_forward c.args.name.now c.in-Some.least c.in-Some-2.greatest c.in_ok-least.field-0 c.in_ok-greatest.field-0 c.in_ok-least.ensures c.in-Some.is c.in_ok-greatest.ensures c.in-Some-2.is

pub loop-child-init : goal.loop-child-init
loop-child-init c =
    reach_start c.args.name.now c.in-Some.least c.in-Some-2.greatest c.in_ok-least.field-0 c.in_ok-greatest.field-0 c.new-names.result c.range-entries.result _ c.args.self.now c.as_map-nodes.ensures.ordered c.new-names.ensures
    (c.range-entries.ensures.between tt) c.as_map-nodes.ensures.entries c.in_ok-least.ensures c.in-Some.is c.in_ok-greatest.ensures c.in-Some-2.is

pub child_part-requires : goal.child_part-requires
child_part-requires c =
    reach_below c.args.self.now c.args.name.now c.loop-child.names (c.in-Some-next.child.now, c.in-Some-next.field-0-1.now) c.next.new.self c.loop-child.entries c.in-Some-next.ensures.steps c.loop-child.invariant

pub loop-child-preserved-in-Continue-branch-7 : goal.loop-child-preserved-in-Continue-branch-7
loop-child-preserved-in-Continue-branch-7 c =
    reach_push c.args.self.now c.args.name.now c.loop-child.names c.push.new.self (c.in-Some-next.child.now, c.in-Some-next.field-0-1.now) c.next.new.self c.loop-child.entries c.in-Some-3.part c.in_ok-part.field-0
    c.in-Some-next.ensures.steps c.loop-child.invariant c.in_ok-part.ensures c.in-Some-3.is c.in_ok-push.ensures.ok

pub loop-child-preserved : goal.loop-child-preserved
loop-child-preserved c =
    reach_skip c.args.self.now c.args.name.now c.loop-child.names (c.in-Some-next.child.now, c.in-Some-next.field-0-1.now) c.next.new.self c.loop-child.entries c.in_ok-part.field-0
    c.in-Some-next.ensures.steps c.loop-child.invariant c.in_ok-part.ensures c.in_default-3.is

pub range-entries-requires-in-Some-4 : goal.range-entries-requires-in-Some-4
range-entries-requires-in-Some-4 c =
    jump_forward c.args.self.now c.args.name.now c.in-Some-2.greatest c.loop-child.names (c.in-Some-next.child.now, c.in-Some-next.field-0-1.now) c.next.new.self c.loop-child.entries c.in-Some-4.last c.in_ok-part.field-0 c.in_ok-greatest.field-0
    c.in-Some-next.ensures.steps c.loop-child.invariant c.in_ok-part.ensures c.in_default-3.is (sym c.in-Some-4.is ∙ c.in_ok-last.ensures) c.in_ok-greatest.ensures c.in-Some-2.is

pub loop-child-preserved-in-Some-4 : goal.loop-child-preserved-in-Some-4
loop-child-preserved-in-Some-4 c =
    reach_jump c.args.self.now c.args.name.now c.in-Some-2.greatest c.loop-child.names (c.in-Some-next.child.now, c.in-Some-next.field-0-1.now) c.next.new.self c.loop-child.entries c.in-Some-4.last c.in_ok-part.field-0 c.in_ok-greatest.field-0 c.range-entries-in-Some-4.result _
    c.in-Some-next.ensures.steps c.loop-child.invariant c.in_ok-part.ensures c.in_default-3.is (sym c.in-Some-4.is ∙ c.in_ok-last.ensures) c.in_ok-greatest.ensures c.in-Some-2.is
    (c.range-entries-in-Some-4.ensures.between tt) c.as_map-nodes.ensures.entries

pub loop-child-smaller-in-Some-4 : goal.loop-child-smaller-in-Some-4
loop-child-smaller-in-Some-4 c =
    reach_jump_ends c.args.self.now c.args.name.now c.in-Some-2.greatest c.loop-child.names (c.in-Some-next.child.now, c.in-Some-next.field-0-1.now) c.next.new.self c.loop-child.entries c.in-Some-4.last c.in_ok-part.field-0 c.in_ok-greatest.field-0 c.range-entries-in-Some-4.result _
    c.in-Some-next.ensures.steps c.loop-child.invariant c.in_ok-part.ensures c.in_default-3.is (sym c.in-Some-4.is ∙ c.in_ok-last.ensures) c.in_ok-greatest.ensures c.in-Some-2.is
    (c.range-entries-in-Some-4.ensures.between tt) c.as_map-nodes.ensures.entries

pub returns : goal.returns
returns c = reach_done c.args.self.now c.args.name.now c.loop-child.names c.loop-child.entries c.in_default-next.ensures.steps.0 c.loop-child.invariant

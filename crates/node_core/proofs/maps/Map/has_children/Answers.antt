use Rattle.std.proofs.Common.{[], refl, sym, ◌∙◌}
use Rattle.node_core.proofs.Walks.{no_first, first_is, range_is, walk_start, walk_stop, walk_skip, walk_done, no_walk, no_child, a_child}
use Rattle.node_core.proofs.maps.Map.has_children.Goals as goal

pub returns-in_default : goal.returns-in_default
returns-in_default c =
    no_child c.args.self.now c.args.name.now
    (no_walk c.args.self.now c.args.name.now [] c.as_map-entries.ensures.ordered refl (no_first c.args.name.now c.in_ok-first.field-0 c.in_ok-first.ensures c.in_default.is))

pub loop-child-init : goal.loop-child-init
loop-child-init c =
    walk_start c.args.self.now c.args.name.now [] c.into_iter-child-iterator.result c.as_map-entries.ensures.ordered refl
    (range_is c.args.name.now c.in-Some.first c.into_iter-child-iterator.result c.range-child-items.result _ c.args.self.now c.into_iter-child-iterator.ensures.into_iter_gives (c.range-child-items.ensures.between tt) c.as_map-entries.ensures.entries (first_is c.args.name.now c.in-Some.first c.in_ok-first.field-0 c.in_ok-first.ensures c.in-Some.is))

pub returns-then-not-is_under : goal.returns-then-not-is_under
returns-then-not-is_under c =
    no_child c.args.self.now c.args.name.now
    (walk_stop c.args.self.now c.args.name.now [] (c.in-Some-2.child.now, c.in-Some-2.field-0-1.now) c.next.new.self c.loop-child.child-iterator c.in-Some-2.ensures.steps c.loop-child.invariant
    (sym c.is_under.ensures ∙ c.if-not-is_under.true))

pub returns-then-is_child_of : goal.returns-then-is_child_of
returns-then-is_child_of c =
    a_child c.args.self.now c.args.name.now (c.in-Some-2.child.now, c.in-Some-2.field-0-1.now) c.next.new.self c.loop-child.child-iterator c.in-Some-2.ensures.steps c.loop-child.invariant
    (sym c.is_child_of.ensures ∙ c.if-is_child_of.true)

pub loop-child-preserved : goal.loop-child-preserved
loop-child-preserved c =
    walk_skip c.args.self.now c.args.name.now [] (c.in-Some-2.child.now, c.in-Some-2.field-0-1.now) c.next.new.self c.loop-child.child-iterator c.in-Some-2.ensures.steps c.loop-child.invariant
    (sym c.is_child_of.ensures ∙ c.if-is_child_of.false)

pub returns : goal.returns
returns c = no_child c.args.self.now c.args.name.now (walk_done c.args.self.now c.args.name.now [] c.loop-child.child-iterator c.in-None.ensures.steps.0 c.loop-child.invariant)

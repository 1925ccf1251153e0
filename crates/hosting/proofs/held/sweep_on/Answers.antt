use Rattle.std.proofs.Common.{refl, ◌∙◌, ap, arith}
use Rattle.over_core.specs.Sweep.{sweep_edits}
use Rattle.hosting.specs.declared.settling.Round.{Round}
use Rattle.hosting.specs.Held.{ground, seen}
use Rattle.hosting.specs.Serving.{is_shut}
use Rattle.hosting.proofs.Sweeps.{begins, begins_counting, counts_more, goes_on, ends_quiet, ends_refused, ends_late_as}
use Rattle.hosting.proofs.HeldSweeps.{held_once, store_kept, held_refused, open_held}
use Rattle.hosting.proofs.PartedLaws.{parts_none, parts_more, parts_same}
use Rattle.hosting.proofs.held.sweep_on.Goals as goal

pub loop-done-init : goal.loop-done-init
loop-done-init g c = record {
  going = begins _ _ _ c.new-sweeps.ensures.items;
  counted = begins_counting _ c.new-sweeps.ensures.items;
  store = refl;
  parted = parts_none c.args.now c.args.group.now;
}

pub loop-done-preserved : goal.loop-done-preserved
loop-done-preserved g c = record {
  going =
      goes_on _ _ (seen c.loop-done.group) (seen c.sweep_with_room.new.self) _ _ _ _ c.loop-done.invariant.going (held_once _ c.loop-done.group c.sweep_with_room.new.self _ c.in-Ok.ensures.ok c.in-Ok.ensures.swept) c.if-quiet.false c.in-Ok.ensures.items
      c.push_reserved.ensures.items;
  counted = counts_more _ _ _ _ _ c.loop-done.invariant.counted c.in-Ok.ensures.items c.push_reserved.ensures.items;
  store = store_kept c.loop-done.group c.sweep_with_room.new.self (sweep_edits c.loop-done.group.master c.args.now) c.in-Ok.ensures.held ∙ c.loop-done.invariant.store;
  parted =
      parts_more c.args.now c.args.group.now c.loop-done.group c.sweep_with_room.new.self _ (sweep_edits c.loop-done.group.master c.args.now) c.loop-done.invariant.parted c.loop-done.invariant.going.done c.loop-done.invariant.store c.in-Ok.ensures.held;
}

pub returns-then-quiet-clause-ends : goal.returns-then-quiet-clause-ends
returns-then-quiet-clause-ends g c =
    ends_quiet _ _ _ (seen c.loop-done.group) (seen c.sweep_with_room.new.self) _ _ _ _ _ c.loop-done.invariant.going (held_once _ c.loop-done.group c.sweep_with_room.new.self _ c.in-Ok.ensures.ok c.in-Ok.ensures.swept) c.if-quiet.true c.in-Ok.ensures.items
    c.push_reserved.ensures.items c.ended_in.ensures

pub returns-then-quiet-clause-open : goal.returns-then-quiet-clause-open
returns-then-quiet-clause-open g c = ap (λ (r : Round). is_shut r.end) c.ended_in.ensures

pub returns-then-quiet-clause-store : goal.returns-then-quiet-clause-store
returns-then-quiet-clause-store g c = store_kept c.loop-done.group c.sweep_with_room.new.self (sweep_edits c.loop-done.group.master c.args.now) c.in-Ok.ensures.held ∙ c.loop-done.invariant.store

pub returns-then-quiet-clause-parted : goal.returns-then-quiet-clause-parted
returns-then-quiet-clause-parted g c =
    parts_more c.args.now c.args.group.now c.loop-done.group c.sweep_with_room.new.self _ (sweep_edits c.loop-done.group.master c.args.now) c.loop-done.invariant.parted c.loop-done.invariant.going.done c.loop-done.invariant.store c.in-Ok.ensures.held

pub returns-in-Err-clause-parted : goal.returns-in-Err-clause-parted
returns-in-Err-clause-parted g c = parts_same c.args.now c.args.group.now c.loop-done.group _ c.loop-done.invariant.parted c.in-Err.ensures.err

pub returns-clause-parted : goal.returns-clause-parted
returns-clause-parted g c = parts_same c.args.now c.args.group.now c.loop-done.group c.note_more.new.self c.loop-done.invariant.parted c.note_more.ensures

pub returns-in-Err-clause-ends : goal.returns-in-Err-clause-ends
returns-in-Err-clause-ends g c =
    ends_refused _ _ _ (seen c.loop-done.group) (seen c.sweep_with_room.new.self) _ _ _ _ c.loop-done.invariant.going (held_refused _ c.loop-done.group c.sweep_with_room.new.self _ c.in-Err.ensures.fault c.in-Err.ensures.err) c.in-Err.ensures.items
    c.ended_in-in-Err.ensures

pub returns-in-Err-clause-open : goal.returns-in-Err-clause-open
returns-in-Err-clause-open g c = ap (λ (r : Round). is_shut r.end) c.ended_in-in-Err.ensures ∙ open_held _ _ _ c.in-Err.ensures.fault

pub returns-in-Err-clause-store : goal.returns-in-Err-clause-store
returns-in-Err-clause-store g c = ap ground c.in-Err.ensures.err ∙ c.loop-done.invariant.store

pub returns-clause-ends : goal.returns-clause-ends
returns-clause-ends g c = ends_late_as _ _ _ (seen c.loop-done.group) (seen c.note_more.new.self) _ _ (ap seen c.note_more.ensures) c.loop-done.invariant.going (omega arith) c.ended_in-2.ensures

pub returns-clause-store : goal.returns-clause-store
returns-clause-store g c = ap ground c.note_more.ensures ∙ c.loop-done.invariant.store

pub returns-clause-open : goal.returns-clause-open
returns-clause-open g c = ap (λ (r : Round). is_shut r.end) c.ended_in-2.ensures

use Rattle.std.proofs.Common.{arith}
use Rattle.hosting.proofs.Sweeps.{begins, begins_counting, counts_more, goes_on, ends_quiet, ends_refused, ends_late}
use Rattle.hosting.proofs.settling.sweep_on.Goals as goal

pub loop-done-init : goal.loop-done-init
loop-done-init g c = record {
  going = begins _ _ _ c.new-sweeps.ensures.items;
  counted = begins_counting _ c.new-sweeps.ensures.items;
}

pub loop-done-preserved : goal.loop-done-preserved
loop-done-preserved g c = record {
  going =
      goes_on _ _ _ _ _ _ _ _ c.loop-done.invariant.going (record { step = c.in-Ok.ensures.ok; committed = c.in-Ok.ensures.committed }) c.if-quiet.false c.in-Ok.ensures.items c.push_reserved.ensures.items;
  counted = counts_more _ _ _ _ _ c.loop-done.invariant.counted c.in-Ok.ensures.items c.push_reserved.ensures.items;
}

pub returns-then-quiet : goal.returns-then-quiet
returns-then-quiet g c =
    ends_quiet _ _ _ _ _ _ _ _ _ _ c.loop-done.invariant.going (record { step = c.in-Ok.ensures.ok; committed = c.in-Ok.ensures.committed }) c.if-quiet.true c.in-Ok.ensures.items c.push_reserved.ensures.items
    c.ended_in.ensures

pub returns-in-Err : goal.returns-in-Err
returns-in-Err g c =
    ends_refused _ _ _ _ _ _ _ _ _ c.loop-done.invariant.going (record { why = c.in-Err.ensures.fault; master = c.in-Err.ensures.err }) c.in-Err.ensures.items c.ended_in-in-Err.ensures

pub returns : goal.returns
returns g c = ends_late _ _ _ _ _ _ c.loop-done.invariant.going (omega arith) c.ended_in-2.ensures

use Rattle.std.proofs.Common.{rules}
use Rattle.master_state.proofs.LocksPut.{one_put}
use Rattle.master_state.proofs.updates.put_locks.Goals as goal

pub loop-put-preserved : goal.loop-put-preserved
loop-put-preserved c = record {
  next = search rules;
  finite = search rules;
  rest = search rules;
  back = one_put _ _ _ _ _ _ _ _ c.loop-put.invariant.back c.in-Ok.ensures.ok c.in-Ok.ensures.back c.in-Ok.ensures.noted;
}

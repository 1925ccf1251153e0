use Rattle.std.proofs.Common.{◌++◌, ap, ◌∙◌}
use Rattle.std.specs.Prelude.{option_to_list}
use Rattle.master_state.proofs.LocksPut.{one_back}
use Rattle.master_state.proofs.updates.restore_locks.Goals as goal

pub loop-instance-preserved : goal.loop-instance-preserved
loop-instance-preserved c =
    one_back _ _ _ _ _ _ (c.pop.ensures.last ∙ ap (λ o. c.pop.new.self ++ option_to_list o) c.in-Some.is) c.restore_lock.ensures ∙ c.loop-instance.invariant

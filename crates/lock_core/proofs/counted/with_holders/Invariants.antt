use Rattle.std.proofs.Common.{◌≡◌, ◌+◌}
use Rattle.std.specs.List.{count_by}
use Rattle.lock_core.specs.Turns.{is_of_client}
use Rattle.lock_core.proofs.counted.with_holders.Given as goal

abbrev pub invariant-loop-owner : goal.invariant-loop-owner
invariant-loop-owner l = l.sum + count_by (λ entry. is_of_client l.client entry.0) l.owner-iterator ≡ l.before + count_by (λ entry. is_of_client l.client entry.0) l.holders

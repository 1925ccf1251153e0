-- How many locks a client holds or waits for: each of its handles counts, on each lock.
use Rattle.std.specs.Prelude.{ℕ, ◌+◌, List}
use Rattle.std.specs.List.{sum_by, count_by}
use Rattle.std.specs.Map.{values_of}
use Rattle.lock_core.specs.State.{LockState}
use Rattle.lock_core.specs.Turns.{is_of_client}
use Rattle.lock_core.specs.Locks.{LockTable, lock_at}

-- how many of its handles hold this lock, and how often one waits for it
abbrev pub claims_in : ℕ → LockState → ℕ
claims_in client lock = count_by (λ entry. is_of_client client entry.0) lock.holders + count_by (λ claim. is_of_client client claim.owner) lock.waiters

-- on all locks
abbrev pub claim_count : ℕ → LockTable → ℕ
claim_count client locks = sum_by (claims_in client) (values_of locks)

-- on the locks of these instances
abbrev pub claims_among : ℕ → LockTable → List ℕ → ℕ
claims_among client locks instances = sum_by (λ instance. claims_in client (lock_at locks instance)) instances

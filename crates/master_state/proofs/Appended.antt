-- What a loop appends for each lock of a list.
use Rattle.std.proofs.Common.{◌≡◌, ℕ, ◌+◌, ◌<◌, List, ◌++◌, length, drop, get_or, refl}
use Rattle.rows_cell.specs.declared.tables.Edit.{Edit}
use Rattle.rows_cell.specs.LockRows.{locks_edits, lock_edits}
use Rattle.master_parts.proofs.Appended.{step_more}
use Rattle.master_state.specs.State.{MasterState}
use Rattle.master_state.specs.declared.updates.LockPut.{LockPut}
use Rattle.master_state.specs.Updates.{lock_change, lock_changes}

-- one lock more
pub locks_more : (s : MasterState) (puts : List LockPut) (i : ℕ) (d : LockPut) → i < length puts → (front more all : List Edit) → more ≡ front ++ lock_edits (lock_change s.locks (get_or puts i d)) → front ++ locks_edits (lock_changes s (drop i puts)) ≡ all → more ++ locks_edits (lock_changes s (drop (i + 1) puts)) ≡ all
locks_more s puts i d h front more all is now =
    step_more (λ ps. locks_edits (lock_changes s ps)) (λ p. lock_edits (lock_change s.locks p)) (λ p ps. refl) puts i d h front more all is now

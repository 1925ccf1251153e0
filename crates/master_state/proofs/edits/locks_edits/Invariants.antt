use Rattle.std.proofs.Common.{◌≡◌, ◌++◌, drop}
use Rattle.rows_cell.specs.LockRows.{locks_edits}
use Rattle.master_state.specs.Updates.{lock_changes}
use Rattle.master_state.proofs.edits.locks_edits.Given as goal

abbrev pub invariant-loop-put : goal.invariant-loop-put
invariant-loop-put l = l.edits ++ locks_edits (lock_changes l.master (drop l.put-index l.puts)) ≡ locks_edits (lock_changes l.master l.puts)

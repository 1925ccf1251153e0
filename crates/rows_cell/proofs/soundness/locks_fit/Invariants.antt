use Rattle.std.proofs.Common.{◌≡◌}
use Rattle.std.specs.List.{list_all}
use Rattle.rows_cell.specs.Sound.{lock_fits}
use Rattle.rows_cell.proofs.soundness.locks_fit.Given as goal

abbrev pub invariant-loop-key : goal.invariant-loop-key
invariant-loop-key l = list_all (lock_fits l.rows) l.key-iterator ≡ list_all (lock_fits l.rows) l.rows.locks

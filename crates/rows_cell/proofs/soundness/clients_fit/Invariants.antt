use Rattle.std.proofs.Common.{◌≡◌}
use Rattle.std.specs.List.{list_all}
use Rattle.rows_cell.specs.Sound.{is_number}
use Rattle.rows_cell.proofs.soundness.clients_fit.Given as goal

abbrev pub invariant-loop-client : goal.invariant-loop-client
invariant-loop-client l = list_all (λ e. is_number e.0) l.client-iterator ≡ list_all (λ e. is_number e.0) l.sessions

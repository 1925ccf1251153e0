use Rattle.std.proofs.Common.{◌≡◌}
use Rattle.std.specs.Prelude.{fold}
use Rattle.master_state.specs.Departed.{departed_in, with_departed_row}
use Rattle.cell_core.proofs.stored.departed_of.Given as goal

abbrev pub invariant-loop-client : goal.invariant-loop-client
invariant-loop-client l = fold with_departed_row l.departed l.client-iterator ≡ departed_in l.rows.sessions

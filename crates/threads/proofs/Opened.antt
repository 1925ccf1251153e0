-- A master that came up has granted no right yet.
use Rattle.std.specs.Prelude.{◌≡◌, ℕ, Bool, true, false, [], Result, Ok, Err, if◌then◌else◌}
use Rattle.node_core.specs.declared.refusals.Fault.{Fault}
use Rattle.node_core.specs.declared.refusals.Fault.TheVariants as faults
use Rattle.rows_cell.specs.declared.settings.MasterTerms.{MasterTerms}
use Rattle.rows_cell.specs.declared.tables.Rows.{Rows}
use Rattle.rows_cell.specs.Stores.{Store}
use Rattle.master_state.specs.State.{MasterState}
use Rattle.cell_core.specs.Step.{is_past_end}
use Rattle.over_core.specs.Up.{master_by, next_epoch, ComesUp}

by_rows : (past : Bool) (terms : MasterTerms) (now : ℕ) (r : Result Rows Fault) (master : MasterState) → (if past then Err faults.Exhausted else master_by terms now r) ≡ Ok master → master.rights ≡ []
by_rows true terms now r master h = absurd cc
by_rows false terms now (Ok rows) master h = cc
by_rows false terms now (Err fault) master h = absurd cc

pub none_granted : (terms : MasterTerms) (now : ℕ) (master : MasterState) (old new : Store) → ComesUp terms now master old new → master.rights ≡ []
none_granted terms now master old new c = by_rows (is_past_end now) terms now (next_epoch c.read.cell c.read.rows) master c.came

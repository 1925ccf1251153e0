-- A master whose changes are held back.
use Rattle.std.specs.Prelude.{List}
use Rattle.rows_cell.specs.declared.tables.Edit.{Edit}
use Rattle.rows_cell.specs.Rows.{changed_rows}
use Rattle.rows_cell.specs.Stores.{Store, left_by}
use Rattle.master_state.specs.State.{MasterState}
use Rattle.over_core.specs.Kept.{CellState}
use Rattle.hosting.specs.Pieces.{HeldPieces, all_held}
use Rattle.hosting.specs.declared.pieces.GroupLimits.{GroupLimits}

-- a master, what its records keep, and the edits that are held back, in pieces
pub record GroupState : Type 0 where
  pub master : MasterState
  pub store : Store
  pub held : HeldPieces

-- what a store would be, were these edits committed
abbrev pub store_behind : Store → List Edit → Store
store_behind store held = record store { rows = changed_rows store.rows held; may_leave = left_by held store.may_leave (changed_rows store.rows held) }

-- as the master sees it: what is held back is committed for it
abbrev pub seen : GroupState → CellState
seen group = record { master = group.master; store = store_behind group.store (all_held group.held) }

-- what a group is over
abbrev pub ground : GroupState → Store × GroupLimits
ground group = (group.store, group.held.limits)

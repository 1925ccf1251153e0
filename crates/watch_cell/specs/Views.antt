-- What contracts see of a watch's types.
use Rattle.std.specs.Prelude.{ℕ, List, [], ◌∷◌, ◌++◌, suc, zero, ◌+◌}
use Rattle.rows_cell.specs.Settings.{no_limits}
use Rattle.rows_cell.specs.declared.tables.Rows.{Rows}
use Rattle.master_state.specs.State.{MasterState, master_of}
use Rattle.over_core.specs.Kept.{CellState}
use Rattle.over_core.specs.declared.swept.Swept.{Swept}
use Rattle.rights_core.specs.declared.totals.Totals.{Totals}
use Rattle.watch_cell.specs.declared.events.WatchEvent.{WatchEvent}
use Rattle.watch_cell.specs.declared.events.Entry.{Entry}

-- a master, and the rows that stand: how often the store refused, and what a crash may leave, are no part of it
pub record WatchedState : Type 0 where
  pub master : MasterState
  pub rows : Rows

abbrev pub watched : CellState → WatchedState
watched c = record { master = c.master; rows = c.store.rows }

-- a receipt: the place in the trail, counted from 0, and the entry there
pub record Ticket : Type 0 where
  pub place : ℕ
  pub event : WatchEvent
  pub reply : Swept

-- a pass: its number, its shares and its receipts
pub record Hand : Type 0 where
  pub number : ℕ
  pub issued : ℕ
  pub acknowledged : ℕ
  pub expired : ℕ
  pub calls : ℕ
  pub receipts : List Ticket

-- what lies under the lock: the cell, how often its store refused, the trail, the four books and the retired passes
pub record Desk : Type 0 where
  pub cell : WatchedState
  pub refusals : ℕ
  pub trail : List Entry
  pub issued : ℕ
  pub acknowledged : ℕ
  pub expired : ℕ
  pub calls : ℕ
  pub retired : List Hand

-- a closed watch: its cell, its trail and its totals, the passes that had been retired, and those that were handed in
pub record ClosedState : Type 0 where
  pub cell : CellState
  pub trail : List Entry
  pub totals : Totals
  pub retired : List Hand
  pub handed : List Hand

-- what lies there first
abbrev pub opened : CellState → Desk
opened cell = record { cell = watched cell; refusals = cell.store.refusals; trail = []; issued = 0; acknowledged = 0; expired = 0; calls = 0; retired = [] }

-- a pass that has made no call
abbrev pub fresh : ℕ → Hand
fresh number = record { number = number; issued = 0; acknowledged = 0; expired = 0; calls = 0; receipts = [] }

-- the passes 1 to n
abbrev pub fresh_hands : ℕ → List Hand
fresh_hands zero = []
fresh_hands (suc n) = fresh_hands n ++ fresh (n + 1) ∷ []

abbrev no_rows : Rows
no_rows = record { cell = []; secret = []; epoch = 0; next_instance = 0; nodes = []; sessions = []; ended_below = 0; locks = [] }

-- a master over no rows
abbrev pub nowhere : WatchedState
nowhere = record { master = master_of no_rows (record { lease = 0; limits = no_limits }) 0; rows = no_rows }

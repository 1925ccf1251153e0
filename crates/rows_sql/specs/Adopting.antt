-- Taking a database over.
use Rattle.std.specs.Prelude.{◌≡◌, ◌≢◌, ◌⊎◌, ◌≤◌, ◌<◌, ◌+◌, ℕ, List, true, false, IsTrue, ⊤}
use Rattle.sqlite_trees.specs.declared.store.Store.{Ghosts}
use Rattle.sqlite_trees.specs.View.{doubt, IsClean}
use Rattle.sqlite.specs.Tree.{Trees}
use Rattle.sqlite.specs.Effect.{Database, IsDatabase}
use Rattle.sqlite.specs.State.{State, HasCleanDisk}
use Rattle.sqlite.specs.Held.{Held, state}
use Rattle.rows_cell.specs.Opening.{opening}
use Rattle.rows_cell.specs.Settings.{Settled}
use Rattle.rows_cell.specs.declared.tables.Rows.{Rows}
use Rattle.node_core.specs.Limits.{number_limit}
use Rattle.rows_cell.specs.Sound.{sound}
use Rattle.rows_cell.specs.Rows.{map_of}
use Rattle.rows_sql.specs.OurSchema.{the_schema}
use Rattle.rows_sql.specs.declared.schema.ours.Version.{Version}
use Rattle.rows_sql.specs.declared.schema.ours.Version.TheVariants.{First, Unindexed, Second, Third}
use Rattle.rows_sql.specs.Versions.{schema_of, IsEarlier}
use Rattle.rows_sql.specs.Held.{Says, SaysAs}
use Rattle.rows_sql.specs.Ready.{tables_of, tables_as}
use Rattle.rows_sql.specs.Ongoing.{IsStoreBy, IsStore}
use Rattle.rows_sql.specs.Creation.{no_schema}

-- a connection that was just opened: nothing is begun, and of a store of each version the rowids of the four tables rise
pub record IsAnew (s : State) : Type 0 where
  pub idle : s.in_transaction ≡ false
  pub is_open : HasCleanDisk s → IsTrue s.is_open
  pub settled : HasCleanDisk s → s.committed ≡ s.now
  pub listed : HasCleanDisk s → IsDatabase s.now
  pub stores : HasCleanDisk s → (version : Version) → s.now.schema ≡ schema_of version → IsStoreBy (schema_of version) s.now

-- it is a store of this version, which says these rows, and by its rules a cell of this name may have them
pub record SaysSound (version : Version) (cell : List ℕ) (db : Database) (rows : Rows) : Type 0 where
  pub schema : db.schema ≡ schema_of version
  pub said : SaysAs version (tables_as version db.trees) rows
  pub sound_rows : sound cell rows ≡ true

-- it is a store of this version, and says no rows that a cell of this name may have
abbrev pub IsUnsound : Version → List ℕ → Database → Type 0
IsUnsound version cell db = (db.schema ≡ schema_of version) × ((rows : Rows) → SaysAs version (tables_as version db.trees) rows → sound cell rows ≡ false)

-- the epoch with which a store is carried over: of the first version the next one
abbrev pub next_epoch : Version → ℕ → ℕ
next_epoch First epoch = epoch + 1
next_epoch Unindexed epoch = epoch
next_epoch Second epoch = epoch
next_epoch Third epoch = epoch

-- what a store of an earlier version is carried over as
abbrev pub carried : Version → Rows → Rows
carried version rows = record rows { epoch = next_epoch version rows.epoch }

-- it is carried over with this epoch: if that has to go on, it can
abbrev pub CanCarry : Version → ℕ → Type 0
CanCarry First epoch = epoch < number_limit
CanCarry Unindexed epoch = ⊤
CanCarry Second epoch = ⊤
CanCarry Third epoch = ⊥

-- the rows that its tables say; the opening rows, if there is no table yet; or those that a store of an earlier version is carried over as
abbrev pub Takes : Settled → Database → Rows → Type 0
Takes settings db rows =
    ((db.schema ≡ the_schema) × Says (tables_of db.trees) rows)
    ⊎ (((db.schema ≡ no_schema) × (rows ≡ opening settings))
    ⊎ ((version : Version) × (before : Rows) × SaysSound version settings.cell db before × CanCarry version before.epoch × (rows ≡ carried version before)))

-- it has other tables; or they say no rows; or it is of an earlier version, and says none that a cell of this name may have
abbrev pub IsForeign : List ℕ → Database → Type 0
IsForeign cell db =
    (((version : Version) → db.schema ≢ schema_of version) × (db.schema ≢ no_schema))
    ⊎ (((db.schema ≡ the_schema) × ((rows : Rows) → ¬ Says (tables_of db.trees) rows)) ⊎ ((version : Version) × IsEarlier version × IsUnsound version cell db))

-- it is of the first version, and its epoch can't go on
abbrev pub IsAtItsEnd : List ℕ → Database → Type 0
IsAtItsEnd cell db = (rows : Rows) × SaysSound First cell db rows × (rows.epoch ≡ number_limit)

-- its rows are taken over: it is a store that says them, and all of them is committed
pub record IsTaken {S : Type 0} (g : Ghosts S) (settings : Settled) (old new : Held S) (rows : Rows) : Type 0 where
  pub idle : new.in_transaction ≡ false
  pub clean : doubt (state g old).is_clean ≤ doubt (state g new).is_clean
  pub is_open : HasCleanDisk (state g new) → IsTrue (state g new).is_open
  pub store : HasCleanDisk (state g new) → IsStore (state g new).now
  pub committed : HasCleanDisk (state g new) → (state g new).committed ≡ (state g new).now
  pub said : HasCleanDisk (state g new) → Says (tables_of (state g new).now.trees) rows
  pub takes : HasCleanDisk (state g new) → Takes settings (state g old).now rows

-- these trees are a store of rows that the database is taken over as
abbrev pub IsTakenAs : Settled → Database → Trees → Type 0
IsTakenAs settings before db = (rows : Rows) × Takes settings before rows × Says (tables_of db) rows

-- its rows aren't taken over: a crash leaves what it could leave before, or the store that it was to become, whole
pub record IsLeftAlone {S : Type 0} (g : Ghosts S) (settings : Settled) (old new : Held S) : Type 0 where
  pub clean : doubt (state g old).is_clean ≤ doubt (state g new).is_clean
  pub crash : HasCleanDisk (state g new) → (db : Trees) → (state g new).may_leave db → (state g old).may_leave db ⊎ IsTakenAs settings (state g old).now db

-- a connection that is open: its last commit is a database, whose trees list its schema and obey it
pub record HasDatabase (s : State) : Type 0 where
  pub is_open : IsTrue s.is_open
  pub listed : IsDatabase s.committed

-- a connection was opened anew over the store of another, whose last commit is all that there is
pub record IsReopened {S : Type 0} (g : Ghosts S) (old new : Held S) : Type 0 where
  pub anew : IsAnew (state g new)
  pub clean : doubt (state g old).is_clean ≤ doubt (state g new).is_clean
  pub has : HasCleanDisk (state g new) → HasDatabase (state g old)
  pub same : HasCleanDisk (state g new) → (state g new).now ≡ (state g old).committed
  pub crash : HasCleanDisk (state g new) → (db : Trees) → (state g new).may_leave db → (state g old).may_leave db

-- behind a refusal the store comes back: a crash leaves what it could leave before, or the store that it was to become, whole
pub record ComesBack {S : Type 0} (g : Ghosts S) (settings : Settled) (old : Held S) (store : S) : Type 0 where
  pub clean : doubt (state g old).is_clean ≤ doubt (g.view store).is_clean
  pub crash : IsClean (g.view store) → (db : Trees) → g.recovers store db → (state g old).may_leave db ⊎ IsTakenAs settings (state g old).committed db

-- what a connection is taken over as: its last commit is a database, and these are the rows that it is taken over as
pub record Adopts (settings : Settled) (s : State) (rows : Rows) : Type 0 where
  pub has : HasDatabase s
  pub takes : Takes settings s.committed rows

-- its last commit is a database, and not that of a cell of this name
pub record IsOther (cell : List ℕ) (s : State) : Type 0 where
  pub has : HasDatabase s
  pub foreign : IsForeign cell s.committed

-- its last commit is a store of the first version, whose epoch can't go on
pub record IsFull (cell : List ℕ) (s : State) : Type 0 where
  pub has : HasDatabase s
  pub at_end : IsAtItsEnd cell s.committed

-- whatever a store of an earlier version is taken over as has its map, its sessions and its locks, and its epoch, or of the first version the next one
abbrev pub CarryingKeeps : Type 0
CarryingKeeps =
    (settings : Settled) (db : Database) (version : Version) (before after : Rows) → IsEarlier version → SaysSound version settings.cell db before → Takes settings db after
    → (map_of after ≡ map_of before) × (after.sessions ≡ before.sessions) × (after.locks ≡ before.locks) × (after.epoch ≡ next_epoch version before.epoch)

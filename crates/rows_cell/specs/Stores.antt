-- A store as one value, and what becomes of it when it is read and when it is asked for a commit.
use Rattle.std.specs.Prelude.{◌≡◌, ◌⊎◌, ◌≤◌, ℕ, true, false, ◌+◌, List, [], ◌∷◌, ◌++◌, Result, Ok, Err}
use Rattle.node_core.specs.Limits.{number_limit}
use Rattle.node_core.specs.declared.refusals.Fault.{Fault}
use Rattle.node_core.specs.declared.refusals.Fault.TheVariants as faults
use Rattle.rows_cell.specs.declared.tables.Rows.{Rows}
use Rattle.rows_cell.specs.declared.tables.Edit.{Edit}
use Rattle.rows_cell.specs.declared.records.StoreFault.{StoreFault}
use Rattle.rows_cell.specs.declared.records.StoreFault.TheVariants.{NoMemory, Exhausted, Refused, Damaged}
use Rattle.rows_cell.specs.Rows.{changed_rows}
use Rattle.rows_cell.specs.Sound.{sound}

-- the cell that the settings name, the rows that stand, the rows that a crash may leave, how often the store refused,
-- and how often what is read was in doubt: 0 where nobody else writes the store and it gives back what was written
pub record Store : Type 0 where
  pub cell : List ℕ
  pub rows : Rows
  pub may_leave : List Rows
  pub refusals : ℕ
  pub doubt : ℕ

-- how a store's fault is printed
abbrev pub store_fault : StoreFault → Fault
store_fault NoMemory = faults.NoMemory
store_fault Exhausted = faults.Exhausted
store_fault Refused = faults.StoreRefused
store_fault Damaged = faults.StoreDamaged

-- what a store answers, its fault as it is printed
abbrev pub told : {X : Type 0} → Result X StoreFault → Result X Fault
told (Ok x) = Ok x
told (Err fault) = Err (store_fault fault)

-- why a store that is asked refuses, by the count of its refusals before and after, which ends as numbers do: it rises by one where the store refused
abbrev pub StoreRefuses : Fault → ℕ → ℕ → Type 0
StoreRefuses faults.NoMemory before after = after ≡ before
StoreRefuses faults.Exhausted before after = (before ≡ number_limit) × (after ≡ before)
StoreRefuses faults.StoreRefused before after = after ≡ before + 1
StoreRefuses _ before after = ⊥

-- ---- a commit

-- what a crash may leave: where nothing is committed what it could before, and behind a commit its rows alone
abbrev pub left_by : List Edit → List Rows → Rows → List Rows
left_by [] leave rows = leave
left_by (edit ∷ edits) leave rows = rows ∷ []

-- the edits stand, and the store refused nothing
pub record IsCommitted (edits : List Edit) (old new : Store) : Type 0 where
  pub cell : new.cell ≡ old.cell
  pub rows : new.rows ≡ changed_rows old.rows edits
  pub leave : new.may_leave ≡ left_by edits old.may_leave new.rows
  pub counted : new.refusals ≡ old.refusals
  pub doubted : old.doubt ≤ new.doubt

-- want of memory, which may refuse anything, and leaves the count of the store's refusals
abbrev pub IsWant : Fault → ℕ → ℕ → Type 0
IsWant fault before after = (fault ≡ faults.NoMemory) × (after ≡ before)

-- why a commit is refused; where nothing is committed the store isn't asked, and memory alone may be wanting
abbrev pub MayRefuse : List Edit → Fault → ℕ → ℕ → Type 0
MayRefuse [] fault before after = IsWant fault before after
MayRefuse (edit ∷ edits) fault before after = StoreRefuses fault before after

-- what a crash may leave behind a refused commit: what it could before, and perhaps the rows of that commit
abbrev pub MayLeave : List Edit → Rows → List Rows → List Rows → Type 0
MayLeave [] rows old new = new ≡ old
MayLeave (edit ∷ edits) rows old new = (new ≡ old) ⊎ (new ≡ old ++ changed_rows rows (edit ∷ edits) ∷ [])

-- the rows stand as they stood
pub record IsRefused (fault : Fault) (edits : List Edit) (old new : Store) : Type 0 where
  pub cell : new.cell ≡ old.cell
  pub rows : new.rows ≡ old.rows
  pub leave : MayLeave edits old.rows old.may_leave new.may_leave
  pub why : MayRefuse edits fault old.refusals new.refusals
  pub doubted : old.doubt ≤ new.doubt

-- the edits are committed, all of them, or the commit is refused; where there are none, the store stays but for the doubt
abbrev pub Commits : {X : Type 0} → List Edit → Store → Store → Result X Fault → Type 0
Commits edits old new (Ok x) = IsCommitted edits old new
Commits edits old new (Err fault) = IsRefused fault edits old new

-- ---- a load

-- what was read: the rows that stand now, which are those of before where nothing is in doubt
pub record IsRead (old read : Store) : Type 0 where
  pub cell : read.cell ≡ old.cell
  pub counted : read.refusals ≡ old.refusals
  pub doubted : old.doubt ≤ read.doubt
  pub same : read.doubt ≡ 0 → read ≡ old

-- why a store isn't read: its rows aren't sound, unless that is in doubt, or it refuses
abbrev pub MayNotRead : Fault → Store → Store → Type 0
MayNotRead faults.StoreDamaged old new = (new.doubt ≡ 0 → sound old.cell old.rows ≡ false) × (new.refusals ≡ old.refusals)
MayNotRead fault old new = StoreRefuses fault old.refusals new.refusals

-- the rows stand as they stood, and a crash may leave what it could before
pub record IsUnread (fault : Fault) (old new : Store) : Type 0 where
  pub cell : new.cell ≡ old.cell
  pub rows : new.rows ≡ old.rows
  pub leave : new.may_leave ≡ old.may_leave
  pub doubted : old.doubt ≤ new.doubt
  pub why : MayNotRead fault old new

-- the rows that stand then, which are sound; or the store isn't read
abbrev pub Loads : Store → Store → Result Rows Fault → Type 0
Loads old new (Ok rows) = (rows ≡ new.rows) × (sound new.cell new.rows ≡ true) × IsRead old new
Loads old new (Err fault) = IsUnread fault old new

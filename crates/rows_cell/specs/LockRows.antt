-- The rows of one node's lock, and the edits that turn them into others.
use Rattle.std.specs.Prelude.{ℕ, Bool, true, false, not, ◌&&◌, ◌==◌, nat_le, List, [], ◌∷◌, ◌++◌, Option, Some, None, is_some, map, filter}
use Rattle.std.specs.Option.{option_map_or}
use Rattle.std.specs.List.{list_all, list_any}
use Rattle.std.specs.Map.{lookup}
use Rattle.std.specs.BTreeMap.{is_at}
use Rattle.node_core.specs.Limits.{lock_delay_limit}
use Rattle.rows_cell.specs.declared.tables.LockRow.{LockRow}
use Rattle.rows_cell.specs.declared.tables.LockState.{LockState}
use Rattle.rows_cell.specs.declared.tables.LockState.TheVariants.{Lapsed, Exclusive, Shared}
use Rattle.rows_cell.specs.declared.keys.LockKey.{LockKey}
use Rattle.rows_cell.specs.declared.tables.Rows.{Rows}
use Rattle.rows_cell.specs.declared.tables.Edit.{Edit}
use Rattle.rows_cell.specs.declared.tables.Edit.TheVariants.{LockGeneration, PutLock, RemoveLock}
use Rattle.rows_cell.specs.Keys.{lock_order}
use Rattle.rows_cell.specs.Rows.{StoredNodes, StoredLocks}
use Rattle.rows_cell.specs.Sound.{is_number, is_live_in, is_shared}

-- the rows of the locks of all other nodes
abbrev pub locks_off : StoredLocks → ℕ → StoredLocks
locks_off locks instance = filter (λ e. not (e.0.instance == instance)) locks

-- ---- what the rows of one lock may be

abbrev pub is_holding : LockState → Bool
is_holding Lapsed = false
is_holding _ = true

-- whether somebody holds the lock
abbrev pub has_holder : StoredLocks → Bool
has_holder locks = list_any (λ e. is_holding e.1.state) locks

-- a holder's session is live; a lapsed row has client and handle 0
abbrev pub client_fits : Rows → LockKey → LockState → Bool
client_fits rows key Lapsed = key.client == 0 && key.handle == 0
client_fits rows key _ = is_live_in rows key.client

-- of this instance, its numbers and its delay within their limits
abbrev pub row_fits : Rows → ℕ → LockKey × LockRow → Bool
row_fits rows instance entry =
    entry.0.instance == instance && is_number entry.0.client && is_number entry.0.handle && nat_le entry.1.delay lock_delay_limit
    && client_fits rows entry.0 entry.1.state

-- none, one row, or shared ones
abbrev pub are_together : StoredLocks → Bool
are_together [] = true
are_together (only ∷ []) = true
are_together (first ∷ second ∷ rest) = list_all (λ e. is_shared e.1.state) (first ∷ second ∷ rest)

abbrev pub are_legal_rows : Rows → ℕ → StoredLocks → Bool
are_legal_rows rows instance locks = list_all (row_fits rows instance) locks && are_together locks

-- the node of this instance is there, and its lock had a first generation
abbrev pub has_generation : StoredNodes → ℕ → Bool
has_generation nodes instance = list_any (λ e. e.1.node.instance == instance && nat_le 1 e.1.lock_generation) nodes

-- ---- edits

abbrev pub is_state : LockState → LockState → Bool
is_state Lapsed Lapsed = true
is_state Exclusive Exclusive = true
is_state Shared Shared = true
is_state _ _ = false

abbrev pub is_row : LockRow → LockRow → Bool
is_row row other = is_state row.state other.state && row.delay == other.delay

abbrev pub has_key : StoredLocks → LockKey → Bool
has_key locks key = is_some (lookup (is_at (lock_order key)) locks)

-- with the same row at its key
abbrev pub has_entry : StoredLocks → LockKey × LockRow → Bool
has_entry locks entry = option_map_or (λ row. is_row row entry.1) (lookup (is_at (lock_order entry.0)) locks) false

-- what goes: each key that the new rows lack
abbrev pub gone_keys : StoredLocks → StoredLocks → List LockKey
gone_keys old new = map (λ e. e.0) (filter (λ e. not (has_key new e.0)) old)

-- what is put: each new entry that the old rows lack or have otherwise
abbrev pub put_rows : StoredLocks → StoredLocks → StoredLocks
put_rows old new = filter (λ e. not (has_entry old e)) new

-- from the old rows of one lock to the new ones
abbrev pub row_edits : StoredLocks → StoredLocks → List Edit
row_edits old new = map RemoveLock (gone_keys old new) ++ map (λ e. PutLock e.0 e.1) (put_rows old new)

-- what becomes of one lock: the name and the instance of its node, its new generation where that changes, its rows before and after
pub record LockChange : Type 0 where
  pub name : List ℕ
  pub instance : ℕ
  pub generation : Option ℕ
  pub old : StoredLocks
  pub new : StoredLocks

abbrev pub generation_edits : List ℕ → Option ℕ → List Edit
generation_edits name None = []
generation_edits name (Some generation) = LockGeneration name generation ∷ []

-- first the generation, then the rows
abbrev pub lock_edits : LockChange → List Edit
lock_edits change = generation_edits change.name change.generation ++ row_edits change.old change.new

-- one lock behind the other
abbrev pub locks_edits : List LockChange → List Edit
locks_edits [] = []
locks_edits (change ∷ changes) = lock_edits change ++ locks_edits changes

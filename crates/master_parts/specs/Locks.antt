-- Locks as rows.
use Rattle.std.specs.Prelude.{ℕ, nat_le, List, [], ◌∷◌, ◌++◌, Option, Some, None, if◌then◌else◌, map, fold}
use Rattle.node_core.specs.Limits.{number_limit}
use Rattle.node_core.specs.declared.kinds.LockMode.{LockMode}
use Rattle.rows_cell.specs.declared.tables.StoredNode.{StoredNode}
use Rattle.rows_cell.specs.declared.tables.LockRow.{LockRow}
use Rattle.rows_cell.specs.declared.tables.LockState.TheVariants.{Lapsed, Exclusive, Shared}
use Rattle.rows_cell.specs.declared.keys.LockKey.{LockKey}
use Rattle.rows_cell.specs.declared.tables.Rows.{Rows}
use Rattle.rows_cell.specs.Rows.{StoredLocks}
use Rattle.lock_core.specs.declared.claims.Owner.{Owner}
use Rattle.lock_core.specs.declared.claims.Hold.{Hold}
use Rattle.lock_core.specs.declared.claims.Claim.{Claim}
use Rattle.lock_core.specs.declared.claims.Closing.{Closing}
use Rattle.lock_core.specs.State.{LockState, lock_of}
use Rattle.lock_core.specs.Locks.{LockTable, lock_at, with_lock, with_holder, with_closing}
use Rattle.node_core.specs.declared.kinds.LockMode.TheVariants as modes
use Rattle.rows_cell.specs.declared.tables.LockState as stored

-- ---- the rows of a lock

abbrev pub stored_mode : LockMode → stored.LockState
stored_mode modes.Exclusive = Exclusive
stored_mode modes.Shared = Shared

abbrev pub holder_key : ℕ → Owner → LockKey
holder_key instance owner = record { instance = instance; client = owner.client; handle = owner.handle }

abbrev pub holder_row : Hold → LockRow
holder_row hold = record { state = stored_mode hold.mode; delay = hold.delay }

-- of each holder, in the order of the handles
abbrev pub holder_rows : ℕ → List (Owner × Hold) → StoredLocks
holder_rows instance holders = map (λ entry. (holder_key instance entry.0, holder_row entry.1)) holders

abbrev pub lapsed_key : ℕ → LockKey
lapsed_key instance = record { instance = instance; client = 0; handle = 0 }

-- a lock that is closed has one row
abbrev pub closing_rows : ℕ → Option Closing → StoredLocks
closing_rows instance None = []
closing_rows instance (Some closing) = (lapsed_key instance, record { state = Lapsed; delay = closing.delay }) ∷ []

-- waiters have none
abbrev pub lock_rows : ℕ → LockState → StoredLocks
lock_rows instance lock = closing_rows instance lock.closed ++ holder_rows instance lock.holders

-- ---- the locks of a master that comes up

-- with the generation of one more node's lock; of sound rows each is below 2^63
abbrev pub with_generation : LockTable → List ℕ × StoredNode → LockTable
with_generation locks entry =
    if nat_le entry.1.lock_generation number_limit then with_lock locks entry.1.node.instance (lock_of entry.1.lock_generation) else locks

abbrev pub holder_of : LockKey → LockMode → ℕ → Claim
holder_of key mode delay = record { owner = record { client = key.client; handle = key.handle }; hold = record { mode = mode; delay = delay } }

-- a delay counts anew from the moment at which the master comes up
abbrev pub locked_as : LockState → ℕ → LockKey → ℕ → stored.LockState → LockState
locked_as lock now key delay Lapsed = with_closing lock now delay
locked_as lock now key delay Exclusive = with_holder lock (holder_of key modes.Exclusive delay)
locked_as lock now key delay Shared = with_holder lock (holder_of key modes.Shared delay)

abbrev pub with_row : ℕ → LockTable → LockKey × LockRow → LockTable
with_row now locks entry =
    with_lock locks entry.0.instance (locked_as (lock_at locks entry.0.instance) now entry.0 entry.1.delay entry.1.state)

abbrev pub generations_of : Rows → LockTable
generations_of rows = fold with_generation [] rows.nodes

-- each node's generation, each holder, and each lapsed lock closed from now on for its delay
abbrev pub locks_of : Rows → ℕ → LockTable
locks_of rows now = fold (with_row now) (generations_of rows) rows.locks

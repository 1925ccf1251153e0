-- A master beside its rows.
use Rattle.std.specs.Prelude.{◌≡◌, ℕ, ◌+◌, ◌≤◌, ◌==◌, nat_lt, nat_le, Bool, true, false, not, ◌&&◌, ◌||◌, List, [], ◌∷◌, All, Option, Some, None, is_none, if◌then◌else◌}
use Rattle.std.specs.Option.{option_map_or}
use Rattle.std.specs.List.{list_all, list_any, sum_by}
use Rattle.std.specs.List.Sorted.{IsStrictlySortedBy}
use Rattle.std.specs.Map.{keys_of, values_of}
use Rattle.std.specs.Ordering.{nat_cmp}
use Rattle.std.specs.Cmp.Lexicographic.{slice_cmp}
use Rattle.rows_cell.specs.Keys.{lock_order}
use Rattle.node_core.specs.Limits.{lock_delay_limit}
use Rattle.node_core.specs.Nodes.{Nodes}
use Rattle.rows_cell.specs.declared.tables.Rows.{Rows}
use Rattle.rows_cell.specs.Rows.{StoredNodes, StoredLocks, map_of}
use Rattle.rows_cell.specs.Indexes.{locks_at, lock_generation_in}
use Rattle.rows_cell.specs.Sound.{sound, is_number}
use Rattle.rows_cell.specs.Stores.{Store}
use Rattle.rights_core.specs.declared.cache_rights.CacheRight.{CacheRight}
use Rattle.rights_core.specs.Rights.{invalidations_of, IsRecorded}
use Rattle.gate_core.specs.declared.pending.Waiting.{Waiting}
use Rattle.gate_core.specs.Gate.{IsOrderly}
use Rattle.master_parts.specs.declared.pending.Task.{Task}
use Rattle.master_parts.specs.declared.pending.Work.{Work}
use Rattle.master_parts.specs.Calls.{bytes_of}
use Rattle.master_state.specs.CallsWaiting.{is_by, is_call}
use Rattle.tags_cell.specs.Messages.{is_leave}
use Rattle.cell_core.specs.Names.{names_touched}
use Rattle.tags_cell.specs.declared.messages.outs.Reply.{Reply}
use Rattle.session_core.specs.declared.records.Session.{Session}
use Rattle.session_core.specs.declared.records.LastCall.{LastCall}
use Rattle.session_core.specs.Session.{events_of}
use Rattle.session_core.specs.Sessions.{SessionTable, session_of, kept_of, is_live}
use Rattle.tags_cell.specs.Numbers.{is_client_number}
use Rattle.tags_cell.specs.declared.handles.Handle.{Handle}
use Rattle.tags_cell.specs.Handles.{read_handle}
use Rattle.lock_core.specs.declared.claims.Owner.{Owner}
use Rattle.lock_core.specs.declared.claims.Hold.{Hold}
use Rattle.lock_core.specs.declared.claims.Claim.{Claim}
use Rattle.lock_core.specs.declared.claims.Closing.{Closing}
use Rattle.lock_core.specs.State.{LockState, IsLegal, nobody_holds, owner_order}
use Rattle.lock_core.specs.Turns.{is_nobody}
use Rattle.lock_core.specs.Locks.{LockTable, lock_at}
use Rattle.master_parts.specs.Locks.{lock_rows}
use Rattle.master_state.specs.State.{MasterState}
use Rattle.master_parts.specs.StoredSessions.{session_rows}
use Rattle.master_parts.specs.declared.pending.Task.TheVariants as tasks
use Rattle.master_parts.specs.declared.pending.Work.TheVariants as works

-- a master, and its store
pub record CellState : Type 0 where
  pub master : MasterState
  pub store : Store

-- a change that a client asked for is of a number that a client can have
abbrev pub task_fits : Task → Bool
task_fits (tasks.Asked asked) = is_client_number asked.client
task_fits (tasks.Tidies idle) = true

abbrev pub waiting_fits : List (Waiting Task) → Bool
waiting_fits waiting = list_all (λ w. task_fits w.change.body) waiting

-- who acknowledged an event did so by a Beat
abbrev pub AreByBeats : SessionTable Reply → Type 0
AreByBeats table = (client : ℕ) (session : Session Reply) → session_of table client ≡ Some session → 1 ≤ (events_of session).acknowledged → 1 ≤ session.newest_beat

-- the invalidations that a client was issued are those that asked rights back
abbrev pub AreIssued : SessionTable Reply → List CacheRight → Type 0
AreIssued table rights = (client : ℕ) (session : Session Reply) → session_of table client ≡ Some session → session.invalidations.issued ≡ invalidations_of client rights

abbrev pub is_of : ℕ → CacheRight → Bool
is_of client right = client == right.client

-- a client without a session that may still have one was granted nothing
abbrev pub AreOwned : SessionTable Reply → ℕ → List CacheRight → Type 0
AreOwned table ended_below rights = (client : ℕ) → session_of table client ≡ None → nat_lt client ended_below ≡ false → list_any (is_of client) rights ≡ false

-- each change that waits is in the way of the names that it touches
abbrev pub AreTouching : List ℕ → List (Waiting Task) → Type 0
AreTouching secret waiting = All (λ w. w.change.touched ≡ names_touched secret w.change.body) waiting

-- a call that waits shows a handle of its client
abbrev pub IsOwnCall : List ℕ → ℕ → Work → Type 0
IsOwnCall secret client (works.Starts principal received) = Unit {0}
IsOwnCall secret client (works.Calls call sequencer) = (handle : Handle) → read_handle secret (bytes_of call) ≡ Some handle → handle.client ≡ client

abbrev pub IsOwnTask : List ℕ → Task → Type 0
IsOwnTask secret (tasks.Asked asked) = IsOwnCall secret asked.client asked.work
IsOwnTask secret (tasks.Tidies idle) = Unit {0}

abbrev pub AreOwnCalls : List ℕ → List (Waiting Task) → Type 0
AreOwnCalls secret waiting = All (λ w. IsOwnTask secret w.change.body) waiting

-- ---- locks

-- each node's generation is that of its lock
abbrev pub AreGenerations : LockTable → StoredNodes → Type 0
AreGenerations locks nodes = (instance generation : ℕ) → lock_generation_in nodes instance ≡ Some generation → generation ≡ (lock_at locks instance).generation

-- the rows of each lock are its holders, or that it is closed
abbrev pub AreLockRows : LockTable → StoredLocks → Type 0
AreLockRows locks rows = (instance : ℕ) → locks_at rows instance ≡ lock_rows instance (lock_at locks instance)

-- it was never held, nobody waits for it, and it isn't closed
abbrev pub is_idle : LockState → Bool
is_idle lock = lock.generation == 0 && is_none lock.closed && nobody_holds lock && is_nobody lock.waiters

-- the node of this instance is there
abbrev pub is_there : Nodes → ℕ → Bool
is_there nodes instance = list_any (λ entry. entry.1.instance == instance) nodes

-- a claim is of a live session, its delay within the limit
abbrev pub claim_fits : SessionTable Reply → Owner → Hold → Bool
claim_fits sessions owner hold = is_live sessions owner.client && is_number owner.handle && nat_le hold.delay lock_delay_limit

abbrev pub closing_fits : Option Closing → Bool
closing_fits closed = option_map_or (λ closing. nat_le closing.delay lock_delay_limit) closed true

abbrev pub waiter_fits : SessionTable Reply → Claim → Bool
waiter_fits sessions claim = is_client_number claim.owner.client && claim_fits sessions claim.owner claim.hold

-- what is kept of one lock
pub record IsLockKept (nodes : Nodes) (sessions : SessionTable Reply) (instance : ℕ) (lock : LockState) : Type 0 where
  pub legal : IsLegal lock
  pub there : (is_idle lock || is_there nodes instance) ≡ true
  pub holders : list_all (λ entry. claim_fits sessions entry.0 entry.1) lock.holders ≡ true
  pub holders_in_order : IsStrictlySortedBy owner_order (keys_of lock.holders)
  pub waiters : list_all (waiter_fits sessions) lock.waiters ≡ true
  pub closing : closing_fits lock.closed ≡ true

-- the locks beside the rows, and what of them no row tells
pub record AreLocksKept (rows : Rows) (s : MasterState) : Type 0 where
  pub generations : AreGenerations s.locks rows.nodes
  pub rows_of_locks : AreLockRows s.locks rows.locks
  pub in_order : IsStrictlySortedBy nat_cmp (keys_of s.locks)
  pub each : (instance : ℕ) → IsLockKept s.nodes s.sessions instance (lock_at s.locks instance)

-- ---- calls that have no reply yet

-- a call, but not the one by which a client ends its session
abbrev pub is_other_call : Work → Bool
is_other_call (works.Starts principal received) = false
is_other_call (works.Calls call sequencer) = not (is_leave call)

-- one, where a change that waits in the gate is work of this kind that the client asked for
abbrev pub work_count : (Work → Bool) → ℕ → Waiting Task → ℕ
work_count kind client waiting = if is_by kind client waiting.change.body then 1 else 0

-- one, where it is the client that waits for a lock
abbrev pub claim_count : ℕ → Claim → ℕ
claim_count client claim = if claim.owner.client == client then 1 else 0

abbrev pub waits_count : ℕ → LockState → ℕ
waits_count client lock = sum_by (claim_count client) lock.waiters

-- how much work of this kind that a client asked for waits in the gate, and how many of its calls for a lock
abbrev pub count_of : (Work → Bool) → List (Waiting Task) → LockTable → ℕ → ℕ
count_of kind waiting locks client = sum_by (work_count kind client) waiting + sum_by (waits_count client) (values_of locks)

abbrev pub count_in : List (Waiting Task) → LockTable → ℕ → ℕ
count_in waiting locks client = count_of is_call waiting locks client

-- how many calls of a client wait, in the gate or for a lock
abbrev pub outstanding : MasterState → ℕ → ℕ
outstanding s client = count_in s.gate.waiting s.locks client

-- the last call of a client has no reply yet
abbrev pub is_unanswered : Option (LastCall Reply) → Bool
is_unanswered kept = option_map_or (λ call. is_none call.reply) kept false

abbrev pub unanswered : Option (LastCall Reply) → ℕ
unanswered kept = if is_unanswered kept then 1 else 0

-- one of each client at most, and then its last call has no reply yet
abbrev pub AreOneOf : (Work → Bool) → List (Waiting Task) → LockTable → SessionTable Reply → Type 0
AreOneOf kind waiting locks sessions = (client : ℕ) → count_of kind waiting locks client ≤ unanswered (kept_of sessions client)

-- a client waits in the gate with one call at most; and in the gate or for a lock with one at most, beside the one by which it ends its session
abbrev pub AreOne : List (Waiting Task) → LockTable → SessionTable Reply → Type 0
AreOne waiting locks sessions = AreOneOf is_call waiting [] sessions × AreOneOf is_other_call waiting locks sessions

abbrev pub HaveOneCall : MasterState → Type 0
HaveOneCall s = AreOne s.gate.waiting s.locks s.sessions

-- what the master knows of its rows is what they hold, and they are sound; and what it knows beside them fits
pub record IsKept (cell : List ℕ) (rows : Rows) (s : MasterState) : Type 0 where
  pub name : s.name ≡ rows.cell
  pub secret : s.secret ≡ rows.secret
  pub epoch : s.epoch ≡ rows.epoch
  pub next_instance : s.next_instance ≡ rows.next_instance
  pub ended_below : s.ended_below ≡ rows.ended_below
  pub nodes : s.nodes ≡ map_of rows
  pub sessions : session_rows s.sessions ≡ rows.sessions
  pub sound_rows : sound cell rows ≡ true
  pub waiting : waiting_fits s.gate.waiting ≡ true
  pub locks : AreLocksKept rows s
  pub one_call : HaveOneCall s
  pub names_in_order : IsStrictlySortedBy (slice_cmp nat_cmp) (keys_of rows.nodes)
  pub sessions_in_order : IsStrictlySortedBy nat_cmp (keys_of rows.sessions)
  pub locks_in_order : IsStrictlySortedBy lock_order (keys_of rows.locks)
  -- no change comes in during a recovery
  pub recovery_is_empty : s.recovering ≡ true → s.gate.waiting ≡ []
  pub by_beats : AreByBeats s.sessions
  -- rights are recorded once, and belong to sessions
  pub recorded : IsRecorded s.rights
  pub issued : AreIssued s.sessions s.rights
  pub owned : AreOwned s.sessions s.ended_below s.rights
  -- changes wait in order, each on the name that it may change, and by a handle of its own client
  pub orderly : IsOrderly s.gate
  pub touching : AreTouching s.secret s.gate.waiting
  pub own : AreOwnCalls s.secret s.gate.waiting

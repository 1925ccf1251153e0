-- What becomes of one lock.
use Rattle.std.specs.Prelude.{ℕ, ◌+◌, ◌-◌, ◌==◌, max, Bool, true, false, not, ◌&&◌, ◌||◌, List, [], ◌∷◌, ◌++◌, Option, Some, None, Result, Ok, Err, if◌then◌else◌, is_some, map, filter, fold}
use Rattle.std.specs.List.{list_any}
use Rattle.std.specs.BTreeMap.{insert_entry}
use Rattle.node_core.specs.declared.kinds.LockMode.{LockMode}
use Rattle.node_core.specs.declared.refusals.Fault.{Fault}
use Rattle.node_core.specs.declared.refusals.Fault.TheVariants as faults
use Rattle.lock_core.specs.declared.claims.Owner.{Owner}
use Rattle.lock_core.specs.declared.claims.Hold.{Hold}
use Rattle.lock_core.specs.declared.claims.Claim.{Claim}
use Rattle.lock_core.specs.declared.claims.Closing.{Closing}
use Rattle.lock_core.specs.declared.partings.Parting.{Parting}
use Rattle.lock_core.specs.declared.partings.Parting.TheVariants.{Expiry, Leave}
use Rattle.lock_core.specs.declared.turns.Turn.{Turn}
use Rattle.lock_core.specs.declared.turns.Acquired.{Acquired}
use Rattle.lock_core.specs.declared.turns.Acquired.TheVariants.{Held, Waits}
use Rattle.lock_core.specs.declared.turns.Lapse.{Lapse}
use Rattle.lock_core.specs.State.{LockState, Holders, owner_order, mode_of, hold_of, nobody_holds, fits, is_exhausted}

abbrev pub is_nobody : List Claim → Bool
is_nobody [] = true
is_nobody (first ∷ rest) = false

-- ---- who gets the lock

-- one more where the lock goes from free to held
abbrev pub generation_after : ℕ → Option LockMode → ℕ
generation_after generation None = generation + 1
generation_after generation (Some mode) = generation

-- with one more holder
abbrev pub held_by : LockState → Claim → LockState
held_by lock claim =
    record lock { generation = generation_after lock.generation (mode_of lock.holders); holders = insert_entry owner_order lock.holders claim.owner claim.hold }

-- the waiters get the lock from the front while they fit; these are behind those who got it before
abbrev pub served_from : LockState → List Claim → List Claim → Turn
served_from lock granted [] = record { lock = lock; granted = granted; exhausted = [] }
served_from lock granted (first ∷ rest) =
    if fits lock first then served_from (held_by lock first) (granted ++ first ∷ []) rest
    else record { lock = record lock { waiters = first ∷ rest }; granted = granted; exhausted = [] }

abbrev pub served : LockState → Turn
served lock = served_from (record lock { waiters = [] }) [] lock.waiters

-- where no generation is left nobody waits any longer, and nobody gets it
abbrev pub turned_away : LockState → Turn
turned_away lock = record { lock = record lock { waiters = [] }; granted = []; exhausted = lock.waiters }

-- what becomes of a lock that somebody left
abbrev pub settled : LockState → Turn
settled lock = if is_exhausted lock then turned_away lock else served lock

-- ---- who asks for it

-- how many milliseconds a lock stays closed
abbrev pub time_left : Closing → ℕ → ℕ
time_left closing now = closing.delay - (now - closing.from)

abbrev pub first_mode : List Claim → Option LockMode
first_mode [] = None
first_mode (first ∷ rest) = Some first.hold.mode

-- how the lock is held; where nobody holds it, the mode of the first who waits
abbrev pub rival_mode : Option LockMode → List Claim → Option LockMode
rival_mode (Some mode) waiters = Some mode
rival_mode None waiters = first_mode waiters

abbrev pub may_hold : LockState → Claim → Bool
may_hold lock claim = fits lock claim && is_nobody lock.waiters

abbrev pub tried_beside : LockState → Claim → Option LockMode → Result LockState Fault
tried_beside lock claim None = Ok (held_by lock claim)
tried_beside lock claim (Some mode) = if may_hold lock claim then Ok (held_by lock claim) else Err (faults.Held mode)

abbrev pub tried_by : LockState → Claim → ℕ → Option Closing → Result LockState Fault
tried_by lock claim now (Some closing) = Err (faults.Delayed (time_left closing now))
tried_by lock claim now None = if is_exhausted lock then Err faults.Exhausted else tried_beside lock claim (rival_mode (mode_of lock.holders) lock.waiters)

-- a try gets the lock where it fits and nobody waits
abbrev pub tried : LockState → Claim → ℕ → Result LockState Fault
tried lock claim now = tried_by lock claim now lock.closed

-- last in the order of coming
abbrev pub waited_by : LockState → Claim → LockState
waited_by lock claim = record lock { waiters = lock.waiters ++ claim ∷ [] }

abbrev pub acquired_by : LockState → Claim → Option Hold → Result Acquired Fault
acquired_by lock claim (Some hold) = Err (faults.Held hold.mode)
acquired_by lock claim None =
    if is_exhausted lock then Err faults.Exhausted else if may_hold lock claim then Ok (Held (held_by lock claim)) else Ok (Waits (waited_by lock claim))

-- whoever doesn't get the lock at once waits for it, save that a holder doesn't
abbrev pub acquired : LockState → Claim → Result Acquired Fault
acquired lock claim = acquired_by lock claim (hold_of lock claim.owner)

-- ---- who leaves it

abbrev pub is_owner : Owner → Owner → Bool
is_owner owner other = other.client == owner.client && other.handle == owner.handle

abbrev pub is_of_client : ℕ → Owner → Bool
is_of_client client owner = owner.client == client

-- without the holders and the waiters that leave
abbrev pub without : (Owner → Bool) → LockState → LockState
without leaves lock = record lock { holders = filter (λ entry. not (leaves entry.0)) lock.holders; waiters = filter (λ claim. not (leaves claim.owner)) lock.waiters }

abbrev pub any_holds : (Owner → Bool) → LockState → Bool
any_holds leaves lock = list_any (λ entry. leaves entry.0) lock.holders

abbrev pub any_waits : (Owner → Bool) → LockState → Bool
any_waits leaves lock = list_any (λ claim. leaves claim.owner) lock.waiters

abbrev pub released : LockState → Owner → Result Turn Fault
released lock owner = if is_some (hold_of lock owner) then Ok (settled (without (is_owner owner) lock)) else Err faults.NotHolder

-- a handle that is closed holds the lock no longer, and waits for it no longer
abbrev pub closed_by : LockState → Owner → Option Turn
closed_by lock owner = if is_some (hold_of lock owner) || any_waits (is_owner owner) lock then Some (settled (without (is_owner owner) lock)) else None

abbrev pub reopened : LockState → Turn
reopened lock = settled (record lock { closed = None })

-- ---- the end of a session

-- what a client's handles hold
abbrev pub claims_of : ℕ → Holders → List Claim
claims_of client holders = map (λ entry. record { owner = entry.0; hold = entry.1 }) (filter (λ entry. is_of_client client entry.0) holders)

abbrev pub greatest_delay : List Claim → ℕ
greatest_delay claims = fold max 0 (map (λ claim. claim.hold.delay) claims)

-- how long a lock stays closed that the session held: a client that leaves lets it go at once
abbrev pub delay_of : Parting → List Claim → ℕ
delay_of Expiry ended = greatest_delay ended
delay_of Leave ended = 0

-- a lock is told to be open again behind an expiry alone: a client that leaves has let it go
abbrev pub is_expiry : Parting → Bool
is_expiry Expiry = true
is_expiry Leave = false

-- closed from now on for a delay, if there is one
abbrev pub closed_for : LockState → ℕ → ℕ → Turn
closed_for lock now delay =
    if delay == 0 then settled lock else record { lock = record lock { closed = Some (record { from = now; delay = delay }) }; granted = []; exhausted = [] }

-- the session held the lock, and nobody holds it any longer
abbrev pub is_abandoned : List Claim → LockState → Bool
is_abandoned ended left = not (is_nobody ended) && nobody_holds left

abbrev pub lapse_of : Parting → ℕ → List Claim → LockState → ℕ → Lapse
lapse_of parting instance ended left now = record {
  instance = instance;
  ended = ended;
  reopens = is_abandoned ended left && (is_expiry parting && delay_of parting ended == 0);
  turn = if is_abandoned ended left then closed_for left now (delay_of parting ended) else settled left;
}

-- what becomes of a lock on which a client's session held or awaited the lock
abbrev pub lapsed : Parting → ℕ → LockState → ℕ → ℕ → Lapse
lapsed parting instance lock client now = lapse_of parting instance (claims_of client lock.holders) (without (is_of_client client) lock) now

-- the session holds the lock, or waits for it
abbrev pub concerns : ℕ → LockState → Bool
concerns client lock = any_holds (is_of_client client) lock || any_waits (is_of_client client) lock

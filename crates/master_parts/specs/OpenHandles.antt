-- Where the handles that are open on a node are found.
use Rattle.std.specs.Prelude.{◌≡◌, ◌≢◌, ◌==◌, ◌&&◌, ℕ, Bool, true, false, not, List, filter, Option, Some, None, is_some, if◌then◌else◌}
use Rattle.std.specs.declared.cmp.Ordering.{Ordering}
use Rattle.std.specs.Ordering.{nat_cmp, ordering_then}
use Rattle.std.specs.Map.{lookup}
use Rattle.std.specs.Option.{option_map_or}
use Rattle.std.specs.BTreeMap.{is_at, insert_entry}
use Rattle.std.specs.declared.ops.Bound.TheVariants.{Included, Excluded}
use Rattle.std.specs.BTreeMap.Range.{range_contains}
use Rattle.session_core.specs.Sessions.{SessionTable, is_live}
use Rattle.tags_cell.specs.Numbers.{IsOrdinal}
use Rattle.tags_cell.specs.declared.handles.Handle.{Handle}
use Rattle.lock_core.specs.declared.claims.Owner.{Owner}
use Rattle.lock_core.specs.declared.claims.Hold.{Hold}
use Rattle.lock_core.specs.State.{LockState, Holders, owner_order, hold_of}
use Rattle.tags_cell.specs.declared.messages.outs.Reply.{Reply}
use Rattle.master_parts.specs.declared.handles.HandleKey.{HandleKey}
use Rattle.master_parts.specs.declared.handles.HandleState.{HandleState}
use Rattle.master_parts.specs.declared.open_handles.PlaceOnNode.{PlaceOnNode}
use Rattle.master_parts.specs.Handles.{NotedHandle}
use Rattle.master_parts.specs.Keys.{handle_order, key_of}
use Rattle.master_parts.specs.Claims.{owner_of}
use Rattle.master_parts.specs.declared.handles.HandleState.TheVariants as states

-- by instance, then client, then number
abbrev pub place_order : PlaceOnNode → PlaceOnNode → Ordering
place_order a b = ordering_then (ordering_then (nat_cmp a.instance b.instance) (nat_cmp a.client b.client)) (nat_cmp a.number b.number)

-- where a handle on an instance stands
abbrev pub place_of : ℕ → HandleKey → PlaceOnNode
place_of instance key = record { instance = instance; client = key.client; number = key.number }

-- how a handle stands, if it is known
abbrev pub state_at : List (HandleKey × HandleState) → HandleKey → Option HandleState
state_at entries key = lookup (is_at (handle_order key)) entries

-- a handle in this state is closed
abbrev pub is_shut : Option HandleState → Bool
is_shut (Some (states.Open noted)) = false
is_shut (Some states.Closed) = true
is_shut None = false

-- an entry of another handle
abbrev pub is_other : HandleKey → HandleKey × HandleState → Bool
is_other key entry = not (is_at (handle_order key) entry.0)

-- nothing is known of a handle any more; one that is known as closed stays so
abbrev pub forgotten : List (HandleKey × HandleState) → HandleKey → List (HandleKey × HandleState)
forgotten entries key = if is_shut (state_at entries key) then entries else filter (is_other key) entries

abbrev pub without_key : List (HandleKey × HandleState) → Option HandleKey → List (HandleKey × HandleState)
without_key entries None = entries
without_key entries (Some key) = forgotten entries key

-- how a handle stands, where it is said
abbrev pub put_state : List (HandleKey × HandleState) → HandleKey → Option HandleState → List (HandleKey × HandleState)
put_state entries key None = entries
put_state entries key (Some state) = insert_entry handle_order entries key state

-- the handle is forgotten, where nothing is said
abbrev pub to_forget : HandleKey → Option HandleState → Option HandleKey
to_forget key None = Some key
to_forget key (Some state) = None

-- how a handle stands from now on, or it is forgotten
abbrev pub with_state : List (HandleKey × HandleState) → HandleKey → Option HandleState → List (HandleKey × HandleState)
with_state entries key state = without_key (put_state entries key state) (to_forget key state)

-- a handle that the client has open
abbrev pub goes_with : ℕ → HandleKey × HandleState → Bool
goes_with client entry = entry.0.client == client && not (is_shut (Some entry.1))

abbrev pub outlasts : ℕ → HandleKey × HandleState → Bool
outlasts client entry = not (goes_with client entry)

-- nothing is known any more of the handles that a client has open
abbrev pub without_client : List (HandleKey × HandleState) → ℕ → List (HandleKey × HandleState)
without_client entries client = filter (outlasts client) entries

-- each handle that a client has open stands from this key on to below that one
abbrev pub AreBetween : ℕ → HandleKey → HandleKey → List (HandleKey × HandleState) → Type 0
AreBetween client first end entries =
    (key : HandleKey) (state : HandleState) → state_at entries key ≡ Some state → goes_with client (key, state) ≡ true → range_contains handle_order (Included first) (Excluded end) key ≡ true

-- a handle that is open gets its place
abbrev pub with_place : List (PlaceOnNode × HandleKey) → HandleKey → HandleState → List (PlaceOnNode × HandleKey)
with_place places key (states.Open noted) = insert_entry place_order places (place_of noted.handle.instance key) key
with_place places key states.Closed = places

-- each handle that is open on a node stands in its place
abbrev pub ArePlaced : List (HandleKey × HandleState) → List (PlaceOnNode × HandleKey) → Type 0
ArePlaced entries places =
    (key : HandleKey) (noted : NotedHandle) → state_at entries key ≡ Some (states.Open noted)
    → lookup (is_at (place_order (place_of noted.handle.instance key))) places ≡ Some key

-- a handle in this state stands in its place, where it is open
abbrev pub IsPlaced : List (PlaceOnNode × HandleKey) → HandleKey → Option HandleState → Type 0
IsPlaced places key state =
    (noted : NotedHandle) → state ≡ Some (states.Open noted) → lookup (is_at (place_order (place_of noted.handle.instance key))) places ≡ Some key

-- a handle in this state isn't open on the instance
abbrev pub IsNotOpenOn : Option HandleState → ℕ → Type 0
IsNotOpenOn state instance = (noted : NotedHandle) → state ≡ Some (states.Open noted) → noted.handle.instance ≢ instance

-- a key is among these
abbrev pub is_among : List (HandleKey × Unit {0}) → HandleKey → Bool
is_among keys key = is_some (lookup (is_at (handle_order key)) keys)

-- all of these are among those
abbrev pub AreAmong : List (HandleKey × Unit {0}) → List (HandleKey × Unit {0}) → Type 0
AreAmong some all = (key : HandleKey) → is_among some key ≡ true → is_among all key ≡ true

-- the keys that stand in the places of an instance are among these
abbrev pub HasPlaced : List (PlaceOnNode × HandleKey) → ℕ → List (HandleKey × Unit {0}) → Type 0
HasPlaced places instance keys =
    (at key : HandleKey) → lookup (is_at (place_order (place_of instance at))) places ≡ Some key → is_among keys key ≡ true

-- each key that has a state is among these
abbrev pub HasAll : List (HandleKey × HandleState) → List (HandleKey × Unit {0}) → Type 0
HasAll entries keys = (key : HandleKey) (state : HandleState) → state_at entries key ≡ Some state → is_among keys key ≡ true

-- the key of each handle that is open on an instance is among these
abbrev pub HasOpenOn : List (HandleKey × HandleState) → ℕ → List (HandleKey × Unit {0}) → Type 0
HasOpenOn entries instance keys =
    (key : HandleKey) (noted : NotedHandle) → state_at entries key ≡ Some (states.Open noted) → noted.handle.instance ≡ instance → is_among keys key ≡ true

-- a handle of a live session is open on the instance
abbrev pub is_open_in : SessionTable Reply → ℕ → HandleKey → HandleState → Bool
is_open_in sessions instance key (states.Open noted) = noted.handle.instance == instance && is_live sessions key.client
is_open_in sessions instance key states.Closed = false

-- what is known of the handle of a key says so
abbrev pub is_known_open : List (HandleKey × HandleState) → SessionTable Reply → ℕ → HandleKey → Bool
is_known_open entries sessions instance key = option_map_or (is_open_in sessions instance key) (state_at entries key) false

-- ---- the handles of owners

-- the key is the handle's own, and its numbers are those of a client and a call
pub record IsOwnKey (key : HandleKey) (handle : Handle) : Type 0 where
  pub same : key_of handle ≡ key
  pub client : IsOrdinal key.client
  pub number : IsOrdinal key.number

-- a handle in this state has this key as its own, where it is open
abbrev pub IsOwn : HandleKey → Option HandleState → Type 0
IsOwn key state = (noted : NotedHandle) → state ≡ Some (states.Open noted) → IsOwnKey key noted.handle

-- each open handle is noted under its own key
abbrev pub AreOwn : List (HandleKey × HandleState) → Type 0
AreOwn entries = (key : HandleKey) → IsOwn key (state_at entries key)

-- the key of the handle that is this owner
abbrev pub key_owned : Owner → HandleKey
key_owned owner = record { client = owner.client; number = owner.handle }

-- the key of the handle that is this owner is among these, where a handle has such numbers
abbrev pub HasOwner : Owner → List (HandleKey × Unit {0}) → Type 0
HasOwner owner keys = IsOrdinal owner.client → IsOrdinal owner.handle → is_among keys (key_owned owner) ≡ true

-- that of each of these owners
abbrev pub HasOwners : Holders → List (HandleKey × Unit {0}) → Type 0
HasOwners holders keys = (owner : Owner) (hold : Hold) → lookup (is_at (owner_order owner)) holders ≡ Some hold → HasOwner owner keys

-- the key of each handle that is open on an instance and holds the lock is among these
abbrev pub HasHoldersOn : List (HandleKey × HandleState) → ℕ → LockState → List (HandleKey × Unit {0}) → Type 0
HasHoldersOn entries instance lock keys =
    (key : HandleKey) (noted : NotedHandle) → state_at entries key ≡ Some (states.Open noted) → noted.handle.instance ≡ instance → is_some (hold_of lock (owner_of noted.handle)) ≡ true → is_among keys key ≡ true

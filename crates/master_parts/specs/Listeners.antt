-- Where the handles stand that asked to be told of events.
use Rattle.std.specs.Prelude.{◌≡◌, ℕ, Bool, true, List, Some}
use Rattle.std.specs.declared.cmp.Ordering.{Ordering}
use Rattle.std.specs.Ordering.{nat_cmp, ordering_then}
use Rattle.std.specs.Map.{lookup}
use Rattle.std.specs.BTreeMap.{is_at}
use Rattle.tags_cell.specs.declared.handles.Handle.{Handle}
use Rattle.master_parts.specs.declared.handles.HandleKey.{HandleKey}
use Rattle.master_parts.specs.declared.handles.HandleState.{HandleState}
use Rattle.master_parts.specs.declared.listeners.Post.{Post}
use Rattle.master_parts.specs.declared.listeners.ListenerPlace.{ListenerPlace}
use Rattle.master_parts.specs.declared.listeners.ListenSubject.{ListenSubject}
use Rattle.master_parts.specs.Handles.{NotedHandle}
use Rattle.master_parts.specs.OpenHandles.{state_at, is_among}
use Rattle.master_parts.specs.declared.handles.HandleState.TheVariants as states
use Rattle.master_parts.specs.declared.listeners.ListenSubject.TheVariants as subjects

-- whether a handle asked to be told of this
abbrev pub asks : ListenSubject → Handle → Bool
asks subjects.Contents handle = handle.events.contents
asks subjects.Children handle = handle.events.children
asks subjects.Lock handle = handle.events.lock

-- the key of each handle that is open on an instance and asked for this is among these
abbrev pub HasAsking : List (HandleKey × HandleState) → ListenSubject → ℕ → List (HandleKey × Unit {0}) → Type 0
HasAsking entries subject instance keys =
    (key : HandleKey) (noted : NotedHandle) → state_at entries key ≡ Some (states.Open noted) → noted.handle.instance ≡ instance → asks subject noted.handle ≡ true
    → is_among keys key ≡ true

-- ---- their seats

abbrev pub rank_of : ListenSubject → ℕ
rank_of subjects.Contents = 0
rank_of subjects.Children = 1
rank_of subjects.Lock = 2

-- by instance, then by what was asked for, then by client, and then by number
abbrev pub post_order : Post → Post → Ordering
post_order a b = ordering_then (nat_cmp a.instance b.instance) (nat_cmp a.rank b.rank)

abbrev pub seat_order : ListenerPlace → ListenerPlace → Ordering
seat_order a b = ordering_then (post_order a.post b.post) (ordering_then (nat_cmp a.client b.client) (nat_cmp a.number b.number))

-- where a handle on an instance stands that asked for this
abbrev pub seat_of : ℕ → ListenSubject → HandleKey → ListenerPlace
seat_of instance subject key = record { post = record { instance = instance; rank = rank_of subject }; client = key.client; number = key.number }

-- the handle of a key stands there
abbrev pub IsSeated : List (ListenerPlace × HandleKey) → ListenSubject → ℕ → HandleKey → Type 0
IsSeated seats subject instance key = lookup (is_at (seat_order (seat_of instance subject key))) seats ≡ Some key

-- a handle in this state, where it is open, has a seat for all that it asked for
abbrev pub HasSeats : List (ListenerPlace × HandleKey) → HandleKey → HandleState → Type 0
HasSeats seats key (states.Open noted) = (subject : ListenSubject) → asks subject noted.handle ≡ true → IsSeated seats subject noted.handle.instance key
HasSeats seats key states.Closed = Unit {0}

-- each handle has
abbrev pub AreSeated : List (HandleKey × HandleState) → List (ListenerPlace × HandleKey) → Type 0
AreSeated entries seats = (key : HandleKey) (state : HandleState) → state_at entries key ≡ Some state → HasSeats seats key state

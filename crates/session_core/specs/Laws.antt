-- What holds of sessions over every step.
use Rattle.std.specs.Prelude.{⊤, Bool, true, false, is_some, ◌≡◌, ◌≢◌, ℕ, ◌+◌, ◌≤◌, List, Option, Some, None}
use Rattle.std.specs.Option.{option_map}
use Rattle.std.specs.Ordering.{nat_cmp}
use Rattle.std.specs.Map.{lookup, keys_of}
use Rattle.std.specs.BTreeMap.{is_at}
use Rattle.std.specs.List.Sorted.{IsStrictlySortedBy}
use Rattle.node_core.specs.declared.events.Event.{Event}
use Rattle.tags_cell.specs.declared.messages.beats.Beat.{Beat}
use Rattle.session_core.specs.declared.records.Parked.{Parked}
use Rattle.session_core.specs.declared.records.LastCall.{LastCall}
use Rattle.session_core.specs.declared.records.Session.{Session}
use Rattle.session_core.specs.Session.{prolonged, ended, told, issued_to, issued_through, live_beat_fault, beaten, offered_span, answered, keeping}
use Rattle.session_core.specs.Sessions.{SessionTable, session_of, kept_of, with_session, with_new, issued_by}

-- what a step makes of a session
pub data Step (K : Type 0) : Type 0 where
  Prolonged : ℕ → Step K
  Ended : Step K
  Told : Event → Step K
  IssuedTo : Step K
  IssuedThrough : ℕ → Step K
  Beaten : Beat → ℕ → Step K
  Answered : ℕ → ℕ → Step K
  Keeping : LastCall K → Step K

abbrev pub stepped : {K : Type 0} → Step K → Session K → Session K
stepped (Prolonged moment) session = prolonged moment session
stepped Ended session = ended session
stepped (Told event) session = told event session
stepped IssuedTo session = issued_to session
stepped (IssuedThrough number) session = issued_through number session
stepped (Beaten beat received) session = beaten beat received session
stepped (Answered lease now) session = answered lease now session
stepped (Keeping kept) session = keeping kept session

-- no step takes a session's time away
abbrev pub TimeoutNeverMovesBack : Type 0 → Type 0
TimeoutNeverMovesBack K = (step : Step K) (session : Session K) → session.timeout ≤ (stepped step session).timeout

-- a session lives no shorter than the lease that its client was last offered
abbrev pub OutlivesItsLease : Type 0 → Type 0
OutlivesItsLease K = (step : Step K) (session : Session K) → session.lease_end ≤ session.timeout → (stepped step session).lease_end ≤ (stepped step session).timeout

-- the invalidations that were acknowledged were issued
abbrev pub IsWithin : {K : Type 0} → Session K → Type 0
IsWithin session = session.invalidations.acknowledged ≤ session.invalidations.issued

-- a Beat that is taken isn't refused
abbrev pub Allows : {K : Type 0} → Step K → Session K → Type 0
Allows (Beaten beat received) session = live_beat_fault session beat ≡ None
Allows _ session = ⊤

-- no invalidation is acknowledged that wasn't issued
abbrev pub AcknowledgedWasIssued : Type 0 → Type 0
AcknowledgedWasIssued K = (step : Step K) (session : Session K) → IsWithin session → Allows step session → IsWithin (stepped step session)

-- the session outlives what an answer offers, counted from the receipt
abbrev pub OfferIsCovered : Type 0 → Type 0
OfferIsCovered K =
    (session : Session K) (beat : Parked) (lease now : ℕ) → session.parked ≡ Some beat → beat.received ≤ now + lease
    → beat.received + offered_span lease beat.received now ≤ (answered lease now session).timeout

abbrev pub is_keeping : {K : Type 0} → Step K → Bool
is_keeping (Keeping kept) = true
is_keeping _ = false

-- what is kept of a client's calls is what `keep` last put
pub record KeepsTheLastCall (K : Type 0) : Type 0 where
  pub put : (s : SessionTable K) (client : ℕ) (kept : LastCall K) → is_some (session_of s client) ≡ true → kept_of (with_session s client (keeping kept)) client ≡ Some kept
  pub stays : (step : Step K) (session : Session K) → is_keeping step ≡ false → (stepped step session).kept ≡ session.kept

-- a step of one client changes its own session alone
pub record IsItsOwn (K : Type 0) : Type 0 where
  pub own : (s : SessionTable K) (client : ℕ) (step : Session K → Session K) → session_of (with_session s client step) client ≡ option_map step (session_of s client)
  pub other : (s : SessionTable K) (client : ℕ) (step : Session K → Session K) (q : ℕ) → q ≢ client → session_of (with_session s client step) q ≡ session_of s q
  pub own_new : (s : SessionTable K) (client : ℕ) (session : Session K) → session_of (with_new s client session) client ≡ Some session
  pub other_new : (s : SessionTable K) (client : ℕ) (session : Session K) (q : ℕ) → q ≢ client → session_of (with_new s client session) q ≡ session_of s q

abbrev pub issued_at : {K : Type 0} → Option ℕ → Session K → Session K
issued_at None session = session
issued_at (Some number) session = issued_through number session

-- each client of a table was issued the invalidations up to its number, and no other client any; the same clients have sessions, under
-- the same lease
pub record IssuesToEach (K : Type 0) : Type 0 where
  pub each : (s : SessionTable K) (asked : List (ℕ × ℕ)) (client : ℕ) → IsStrictlySortedBy nat_cmp (keys_of asked) → session_of (issued_by asked s) client ≡ option_map (issued_at (lookup (is_at (nat_cmp client)) asked)) (session_of s client)
  pub clients : (s : SessionTable K) (asked : List (ℕ × ℕ)) → keys_of (issued_by asked s).sessions ≡ keys_of s.sessions
  pub lease : (s : SessionTable K) (asked : List (ℕ × ℕ)) → (issued_by asked s).lease ≡ s.lease

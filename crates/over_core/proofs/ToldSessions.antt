-- What clients are told changes the events of their sessions alone, and not up to where they were acknowledged.
use Rattle.std.proofs.Common.{◌≡◌, ◌≢◌, ℕ, List, [], ◌∷◌, Bool, true, false, cond, Option, Some, None, refl, sym, ap, ◌∙◌, eqb, arith}
use Rattle.std.specs.Prelude.{◌==◌, ◌&&◌, ◌||◌, not, fold, nat_le, if◌then◌else◌}
use Rattle.std.specs.Option.{option_map, option_map_or, unwrap_or}
use Rattle.std.specs.List.{list_all}
use Rattle.std.specs.Map.{keys_of, set_value}
use Rattle.std.specs.BTreeMap.{is_at}
use Rattle.std.specs.Ordering.{nat_cmp}
use Rattle.std.proofs.lemmas.Bool.Decides.{nat_tests}
use Rattle.std.proofs.lemmas.Map.{keys-set_value}
use Rattle.collections.proofs.Keys.{number_same}
use Rattle.node_core.specs.declared.events.Event.{Event}
use Rattle.tags_cell.specs.declared.messages.outs.Reply.{Reply}
use Rattle.event_core.specs.Queue.{EventQueue, empty_queue, is_full, queued, pushed}
use Rattle.session_core.specs.declared.records.Session.{Session}
use Rattle.session_core.specs.Session.{events_of, told, has_heard}
use Rattle.session_core.specs.Sessions.{SessionTable, session_of, with_session, all_heard}
use Rattle.session_core.proofs.OneClient.{own_session, other_session}
use Rattle.session_core.proofs.RowsOfSessions.{rows_of, rows_stay}
use Rattle.master_parts.specs.declared.notices.SessionEvent.{SessionEvent}
use Rattle.master_state.specs.Notices.{with_telling}
use Rattle.over_core.proofs.EachSession.{Each, EachWithout, step_each, step_without}
use Rattle.over_core.proofs.SessionReads.{reads_step}

-- ---- one session

pub pushed_acknowledged : (event : Event) (queue : EventQueue) → (pushed event queue).acknowledged ≡ queue.acknowledged
pushed_acknowledged event queue = elim (is_full queue) as (λ b. (cond b (record queue { missed = true }) (queued event queue)).acknowledged ≡ queue.acknowledged) [ true ↦ refl | false ↦ refl ]

pub told_acknowledged : (event : Event) (session : Session Reply) → (events_of (told event session)).acknowledged ≡ (events_of session).acknowledged
told_acknowledged event session = elim session.events as (λ o. (unwrap_or (option_map (pushed event) o) empty_queue).acknowledged ≡ (unwrap_or o empty_queue).acknowledged) [
  | None ↦ refl
  | Some queue ↦ pushed_acknowledged event queue
]

-- so it was heard from as before
pub told_heard : (event : Event) (session : Session Reply) → has_heard (told event session) ≡ has_heard session
told_heard event session = ap (λ count. not session.live || nat_le 1 count) (told_acknowledged event session)

-- the events that a client is told of, in order
abbrev pub told_to : ℕ → List SessionEvent → List Event
told_to client [] = []
told_to client (telling ∷ rest) = if telling.client == client then telling.event ∷ told_to client rest else told_to client rest

-- its session with all of them
abbrev pub told_all : List Event → Session Reply → Session Reply
told_all [] session = session
told_all (event ∷ rest) session = told_all rest (told event session)

-- what no event changes stays
pub all_keep : {X : Type 0} (reads : Session Reply → X) → ((event : Event) (before : Session Reply) → reads (told event before) ≡ reads before) → (events : List Event) (session : Session Reply) → reads (told_all events session) ≡ reads session
all_keep reads keeps [] session = refl
all_keep reads keeps (event ∷ rest) session = all_keep reads keeps rest (told event session) ∙ keeps event session

same_events : (session new : Session Reply) → new.principal ≡ session.principal → new.live ≡ session.live → new.timeout ≡ session.timeout → new.lease_end ≡ session.lease_end → new.newest_beat ≡ session.newest_beat → new.invalidations ≡ session.invalidations → new.taken_over ≡ session.taken_over → new.parked ≡ session.parked → new.mark ≡ session.mark → new.kept ≡ session.kept → new ≡ record session { events = new.events }
same_events session new principal live timeout lease_end newest_beat invalidations taken_over parked mark kept = rw (← principal, ← live, ← timeout, ← lease_end, ← newest_beat, ← invalidations, ← taken_over, ← parked, ← mark, ← kept) refl

-- but its events it stays as it is
pub events_alone : (events : List Event) (session : Session Reply) → told_all events session ≡ record session { events = (told_all events session).events }
events_alone events session =
    same_events session (told_all events session) (all_keep (λ x. x.principal) (λ e b. refl) events session) (all_keep (λ x. x.live) (λ e b. refl) events session) (all_keep (λ x. x.timeout) (λ e b. refl) events session) (all_keep (λ x. x.lease_end) (λ e b. refl) events session) (all_keep (λ x. x.newest_beat) (λ e b. refl) events session)
    (all_keep (λ x. x.invalidations) (λ e b. refl) events session) (all_keep (λ x. x.taken_over) (λ e b. refl) events session) (all_keep (λ x. x.parked) (λ e b. refl) events session) (all_keep (λ x. x.mark) (λ e b. refl) events session) (all_keep (λ x. x.kept) (λ e b. refl) events session)

pub all_acknowledged : (events : List Event) (session : Session Reply) → (events_of (told_all events session)).acknowledged ≡ (events_of session).acknowledged
all_acknowledged events session = all_keep (λ x. (events_of x).acknowledged) told_acknowledged events session

-- ---- the session of each client

no_more : (o : Option (Session Reply)) → o ≡ option_map (told_all []) o
no_more None = refl
no_more (Some session) = refl

one_more : (event : Event) (rest : List Event) (o : Option (Session Reply)) → option_map (told_all rest) (option_map (told event) o) ≡ option_map (told_all (event ∷ rest)) o
one_more event rest None = refl
one_more event rest (Some session) = refl

other_client : (client q : ℕ) → (client == q) ≡ false → q ≢ client
other_client client q h same = grind (arith, nat_tests)

pub told_session : (tellings : List SessionEvent) (table : SessionTable Reply) (q : ℕ) → session_of (fold with_telling table tellings) q ≡ option_map (told_all (told_to q tellings)) (session_of table q)
told_session [] table q = no_more (session_of table q)
told_session (telling ∷ rest) table q =
    told_session rest (with_telling table telling) q
    ∙ (elim (telling.client == q) as (λ b. (telling.client == q) ≡ b → option_map (told_all (told_to q rest)) (session_of (with_telling table telling) q) ≡ option_map (told_all (cond b (telling.event ∷ told_to q rest) (told_to q rest))) (session_of table q)) [
      | true ↦ (λ h.
          let same : telling.client ≡ q = number_same telling.client q h in
          let own : session_of (with_session table telling.client (told telling.event)) q ≡ option_map (told telling.event) (session_of table q) = rw (← same) (own_session table telling.client (told telling.event)) in
          ap (option_map (told_all (told_to q rest))) own ∙ one_more telling.event (told_to q rest) (session_of table q))
      | false ↦ (λ h. ap (option_map (told_all (told_to q rest))) (other_session table telling.client (told telling.event) q (other_client telling.client q h)))
    ]) refl

-- what no event changes is read as before
pub reads_told : {X : Type 0} (reads : Option (Session Reply) → X) → ((event : Event) (before : Session Reply) → reads (Some (told event before)) ≡ reads (Some before)) → (tellings : List SessionEvent) (table : SessionTable Reply) (q : ℕ) → reads (session_of (fold with_telling table tellings) q) ≡ reads (session_of table q)
reads_told reads keeps [] table q = refl
reads_told reads keeps (telling ∷ rest) table q = reads_told reads keeps rest (with_telling table telling) q ∙ reads_step reads table telling.client (told telling.event) (keeps telling.event) q

pub told_each : (P : ℕ → Session Reply → Type 0) → ((client : ℕ) (event : Event) (before : Session Reply) → P client before → P client (told event before)) → (tellings : List SessionEvent) (table : SessionTable Reply) → Each P table → Each P (fold with_telling table tellings)
told_each P keeps [] table h = h
told_each P keeps (telling ∷ rest) table h = told_each P keeps rest (with_telling table telling) (step_each P table telling.client (told telling.event) (λ before there. keeps telling.client telling.event before) h)

pub told_without : (P : ℕ → Type 0) (tellings : List SessionEvent) (table : SessionTable Reply) → EachWithout P table → EachWithout P (fold with_telling table tellings)
told_without P [] table h = h
told_without P (telling ∷ rest) table h = told_without P rest (with_telling table telling) (step_without P table telling.client (told telling.event) h)

-- ---- the table

pub rows_told : {B : Type 0} (f : Session Reply → B) → ((event : Event) (before : Session Reply) → f (told event before) ≡ f before) → (tellings : List SessionEvent) (table : SessionTable Reply) → rows_of f (fold with_telling table tellings).sessions ≡ rows_of f table.sessions
rows_told f keeps [] table = refl
rows_told f keeps (telling ∷ rest) table = rows_told f keeps rest (with_telling table telling) ∙ rows_stay f table telling.client (told telling.event) (keeps telling.event)

lease_of_one : (s : SessionTable Reply) (client : ℕ) (step : Session Reply → Session Reply) → (with_session s client step).lease ≡ s.lease
lease_of_one s client step = elim (session_of s client) as (λ (o : Option (Session Reply)). (option_map_or (λ session. record s { sessions = set_value (is_at (nat_cmp client)) s.sessions (step session) }) o s).lease ≡ s.lease) [
  | None ↦ refl
  | Some session ↦ refl
]

pub lease_told : (tellings : List SessionEvent) (table : SessionTable Reply) → (fold with_telling table tellings).lease ≡ table.lease
lease_told [] table = refl
lease_told (telling ∷ rest) table = lease_told rest (with_telling table telling) ∙ lease_of_one table telling.client (told telling.event)

clients_of_one : (s : SessionTable Reply) (client : ℕ) (step : Session Reply → Session Reply) → keys_of (with_session s client step).sessions ≡ keys_of s.sessions
clients_of_one s client step = elim (session_of s client) as (λ (o : Option (Session Reply)). keys_of (option_map_or (λ session. record s { sessions = set_value (is_at (nat_cmp client)) s.sessions (step session) }) o s).sessions ≡ keys_of s.sessions) [
  | None ↦ refl
  | Some session ↦ keys-set_value (is_at (nat_cmp client)) s.sessions (step session)
]

pub clients_told : (tellings : List SessionEvent) (table : SessionTable Reply) → keys_of (fold with_telling table tellings).sessions ≡ keys_of table.sessions
clients_told [] table = refl
clients_told (telling ∷ rest) table = clients_told rest (with_telling table telling) ∙ clients_of_one table telling.client (told telling.event)

-- each session was heard from as before
all_rows : (es : List (ℕ × Session Reply)) → list_all (λ (e : ℕ × Bool). e.1) (rows_of has_heard es) ≡ list_all (λ (e : ℕ × Session Reply). has_heard e.1) es
all_rows [] = refl
all_rows (e ∷ es) = ap (λ b. has_heard e.1 && b) (all_rows es)

pub all_heard_told : (tellings : List SessionEvent) (table : SessionTable Reply) → all_heard (fold with_telling table tellings) ≡ all_heard table
all_heard_told tellings table =
    sym (all_rows (fold with_telling table tellings).sessions)
    ∙ ap (list_all (λ (e : ℕ × Bool). e.1)) (rows_told has_heard told_heard tellings table)
    ∙ all_rows table.sessions

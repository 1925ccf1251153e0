-- One session, and what each step makes of it. Moments and spans are milliseconds of the master's clock.
use Rattle.std.specs.Prelude.{ℕ, Bool, true, false, not, ◌&&◌, ◌||◌, ◌==◌, ◌+◌, ◌-◌, ◌/◌, nat_lt, nat_le, max, min, List, Option, Some, None, Result, Ok, Err, if◌then◌else◌, is_none, unwrap_or}
use Rattle.std.specs.Option.{option_map, option_map_or, option_or}
use Rattle.std.specs.Str.{bytes_eq}
use Rattle.node_core.specs.Limits.{number_limit}
use Rattle.node_core.specs.declared.events.Event.{Event}
use Rattle.node_core.specs.declared.events.Event.TheVariants.{FailOver}
use Rattle.node_core.specs.declared.refusals.Fault.{Fault}
use Rattle.node_core.specs.declared.refusals.Fault.TheVariants as faults
use Rattle.lease_core.specs.Lease.{recovery_timeout}
use Rattle.tags_cell.specs.Numbers.{is_client_number}
use Rattle.tags_cell.specs.declared.messages.beats.Beat.{Beat}
use Rattle.event_core.specs.Queue.{EventQueue, empty_queue, count_of, has_waiting, queued, pushed, acknowledged_to}
use Rattle.session_core.specs.declared.records.Tally.{Tally}
use Rattle.session_core.specs.declared.records.Parked.{Parked}
use Rattle.session_core.specs.declared.records.Mark.{Mark}
use Rattle.session_core.specs.declared.records.Offer.{Offer}
use Rattle.session_core.specs.declared.records.LastCall.{LastCall}
use Rattle.session_core.specs.declared.records.Session.{Session}

-- ---- the beginning and the end of a session

abbrev pub nothing_issued : Tally
nothing_issued = record { issued = 0; acknowledged = 0 }

-- a session of which this master knows no Beat and no call; one that has ended has no events
abbrev pub session_until : {K : Type 0} → List ℕ → Bool → ℕ → Session K
session_until principal live timeout = record {
  principal = principal;
  live = live;
  timeout = timeout;
  lease_end = timeout;
  newest_beat = 0;
  invalidations = nothing_issued;
  events = if live then Some empty_queue else None;
  taken_over = false;
  parked = None;
  mark = None;
  kept = None;
}

-- the first event of a live session tells that a new master is up
abbrev pub first_events : Bool → Option EventQueue
first_events live = if live then Some (queued FailOver empty_queue) else None

-- a session as a new master finds it in the rows
abbrev pub recovered_session : {K : Type 0} → List ℕ → Bool → ℕ → Session K
recovered_session principal live now = record (session_until principal live (now + recovery_timeout)) { events = first_events live; taken_over = true }

-- a client without a session may start, and one with a live session of the same principal
abbrev pub may_start : {K : Type 0} → Option (Session K) → List ℕ → Bool
may_start found principal = option_map_or (λ session. session.live && bytes_eq session.principal principal) found true

-- its client is offered a lease that ends at this moment: it lives until then at least
abbrev pub prolonged : {K : Type 0} → ℕ → Session K → Session K
prolonged moment session = record session { timeout = max session.timeout moment; lease_end = moment }

-- the master may end a live session from its timeout on
abbrev pub is_expired : {K : Type 0} → ℕ → Session K → Bool
is_expired now session = session.live && nat_le session.timeout now

abbrev pub is_client_expired : {K : Type 0} → ℕ → ℕ → Session K → Bool
is_client_expired now client session = is_expired now session

-- an ended session stays recorded, without its events
abbrev pub ended : {K : Type 0} → Session K → Session K
ended session = record session { live = false; events = None }

-- ---- its events

-- a session that has ended has none
abbrev pub events_of : {K : Type 0} → Session K → EventQueue
events_of session = unwrap_or session.events empty_queue

-- it is told of an event, unless it has ended
abbrev pub told : {K : Type 0} → Event → Session K → Session K
told event session = record session { events = option_map (pushed event) session.events }

-- it has acknowledged its first event, which tells that a new master is up
abbrev pub has_heard : {K : Type 0} → Session K → Bool
has_heard session = not session.live || nat_le 1 (events_of session).acknowledged

-- ---- the invalidations that were issued to it

abbrev pub is_owing : Tally → Bool
is_owing tally = nat_lt tally.acknowledged tally.issued

-- an older acknowledgement takes nothing back
abbrev pub processed_to : ℕ → Tally → Tally
processed_to count tally = record tally { acknowledged = max tally.acknowledged count }

abbrev pub one_more : Tally → Tally
one_more tally = record tally { issued = tally.issued + 1 }

-- one more was issued to it
abbrev pub issued_to : {K : Type 0} → Session K → Session K
issued_to session = record session { invalidations = one_more session.invalidations }

-- the invalidations up to this number were issued to it
abbrev pub issued_through : {K : Type 0} → ℕ → Session K → Session K
issued_through number session = record session { invalidations = record session.invalidations { issued = max session.invalidations.issued number } }

-- the count stands at the last number
abbrev pub is_count_full : {K : Type 0} → Session K → Bool
is_count_full session = nat_le number_limit session.invalidations.issued

-- ---- who holds up others

-- it hasn't acknowledged that a new master is up
abbrev pub owes_fail_over : {K : Type 0} → Session K → Bool
owes_fail_over session = session.taken_over && not (has_heard session)

-- a change waits until its invalidations are acknowledged, and a recovery until it has heard of the new master
abbrev pub holds_up : {K : Type 0} → Session K → Bool
holds_up session = is_owing session.invalidations || owes_fail_over session

-- what it has to acknowledge, so that the others go on
abbrev pub mark_at : {K : Type 0} → ℕ → Session K → Option Mark
mark_at now session = if holds_up session then Some (record { invalidations = session.invalidations.issued; since = now }) else None

-- an Alive tells it of that
abbrev pub marked : {K : Type 0} → ℕ → Session K → Session K
marked now session = record session { mark = option_or session.mark (mark_at now session) }

-- it has acknowledged that
abbrev pub meets : {K : Type 0} → Mark → Session K → Bool
meets mark session = nat_le mark.invalidations session.invalidations.acknowledged && not (owes_fail_over session)

abbrev pub meets_its_mark : {K : Type 0} → Session K → Bool
meets_its_mark session = option_map_or (λ mark. meets mark session) session.mark false

abbrev pub unmarked : {K : Type 0} → Session K → Session K
unmarked session = record session { mark = if meets_its_mark session then None else session.mark }

-- how long it may hold up others: a client that hasn't acknowledged by then without fault has lost its session by its own clock
abbrev pub patience : ℕ → ℕ
patience lease = lease + 48000

-- it was told longer ago than that when a Beat of it came
abbrev pub is_given_up : {K : Type 0} → ℕ → Parked → Session K → Bool
is_given_up lease beat session = option_map_or (λ mark. nat_le (patience lease) (beat.received - mark.since)) session.mark false

-- ---- Beats

-- why a Beat is refused: no live session, not newer, or more acknowledged than was issued, invalidations first
abbrev pub live_beat_fault : {K : Type 0} → Session K → Beat → Option Fault
live_beat_fault session beat =
    if nat_le beat.number session.newest_beat then Some faults.Repeat
    else if nat_lt session.invalidations.issued beat.invalidations then Some (faults.BadAck session.invalidations.issued)
    else if nat_lt (count_of (events_of session)) beat.events then Some (faults.BadAck (count_of (events_of session)))
    else None

abbrev pub beat_fault : {K : Type 0} → Option (Session K) → Beat → Option Fault
beat_fault None beat = Some faults.NoSession
beat_fault (Some session) beat = if session.live then live_beat_fault session beat else Some faults.NoSession

-- it waits for its answer, in the place of an older one
abbrev pub parked : Beat → ℕ → Parked
parked beat received = record { number = beat.number; received = received }

-- a Beat acknowledges, and is parked
abbrev pub acknowledging : {K : Type 0} → Beat → ℕ → Session K → Session K
acknowledging beat received session = record session {
  newest_beat = beat.number;
  invalidations = processed_to beat.invalidations session.invalidations;
  events = option_map (acknowledged_to beat.events) session.events;
  parked = Some (parked beat received);
}

abbrev pub beaten : {K : Type 0} → Beat → ℕ → Session K → Session K
beaten beat received session = unmarked (acknowledging beat received session)

-- something waits for the client's acknowledgement
abbrev pub owes : {K : Type 0} → Session K → Bool
owes session = is_owing session.invalidations || has_waiting (events_of session)

-- the end of the lease that its client was last offered, or of its session, is near: three seconds and a sixteenth of the lease
abbrev pub nears_end : {K : Type 0} → ℕ → ℕ → Session K → Bool
nears_end lease now session = nat_le (min session.timeout session.lease_end - now) (3000 + lease / 16)

-- a live session's parked Beat is to be answered: not that of one that is given up, which so ends by its timeout
abbrev pub is_due : {K : Type 0} → ℕ → ℕ → Session K → Bool
is_due lease now session = option_map_or (λ beat. session.live && (not (is_given_up lease beat session) && (owes session || nears_end lease now session))) session.parked false

-- the rows may hold a session under a number that no client can have, and which never sends a Beat
abbrev pub is_client_due : {K : Type 0} → ℕ → ℕ → ℕ → Session K → Bool
is_client_due lease now client session = is_client_number client && is_due lease now session

-- it is, and the session's timeout hasn't come: so it may be answered also where the session's end can't be committed
abbrev pub is_answerable : {K : Type 0} → ℕ → ℕ → Session K → Bool
is_answerable lease now session = is_due lease now session && not (is_expired now session)

abbrev pub is_client_answerable : {K : Type 0} → ℕ → ℕ → ℕ → Session K → Bool
is_client_answerable lease now client session = is_client_number client && is_answerable lease now session

-- the one test, or the other, which spares a session whose timeout has come
abbrev pub is_due_by : {K : Type 0} → Bool → ℕ → ℕ → Session K → Bool
is_due_by false lease now session = is_due lease now session
is_due_by true lease now session = is_answerable lease now session

abbrev pub is_client_due_by : {K : Type 0} → Bool → ℕ → ℕ → ℕ → Session K → Bool
is_client_due_by spares lease now client session = is_client_number client && is_due_by spares lease now session

-- from the receipt of a message to a lease behind its answer
abbrev pub offered_span : ℕ → ℕ → ℕ → ℕ
offered_span lease received now = (now + lease) - received

-- what the answer to a parked Beat offers
abbrev pub offer_to : ℕ → ℕ → Parked → Offer
offer_to lease now beat = record { number = beat.number; span = offered_span lease beat.received now }

-- its Beat waits no longer
abbrev pub unparked : {K : Type 0} → ℕ → Session K → Session K
unparked now session = record (marked now session) { parked = None }

-- the parked Beat is answered: the session lives for a lease from now on
abbrev pub answered : {K : Type 0} → ℕ → ℕ → Session K → Session K
answered lease now session = option_map_or (λ beat. prolonged (now + lease) (unparked now session)) session.parked session

-- ---- calls

-- by the last call of the client: a new one comes, or the last one again, with its reply once there is one; an older one, and a new one while the last one
-- waits, are refused
abbrev pub kept_answer : {K : Type 0} → Option (LastCall K) → ℕ → Result (Option (LastCall K)) Fault
kept_answer None number = Ok None
kept_answer (Some kept) number =
    if number == kept.number then Ok (Some kept)
    else if nat_lt number kept.number then Err faults.Repeat
    else if is_none kept.reply then Err faults.CallOutstanding
    else Ok None

abbrev pub keeping : {K : Type 0} → LastCall K → Session K → Session K
keeping kept session = record session { kept = Some kept }

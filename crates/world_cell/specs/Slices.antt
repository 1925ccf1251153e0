-- What a world shows of one client and one name: their slice.
use Rattle.std.specs.Prelude.{ℕ, Bool, true, false, not, ◌&&◌, ◌||◌, ◌==◌, nat_lt, nat_le, List, [], ◌∷◌, ◌++◌, fold, Option, Some, None, if◌then◌else◌}
use Rattle.std.specs.Option.{option_map_or}
use Rattle.std.specs.Str.{bytes_eq}
use Rattle.std.specs.Map.{lookup}
use Rattle.std.specs.BTreeMap.{is_at}
use Rattle.std.specs.Ordering.{nat_cmp}
use Rattle.coherence.specs.Slice as one
use Rattle.coherence.specs.Slice.{Slice, nobody}
use Rattle.rows_cell.specs.declared.tables.SessionRow as of_rows
use Rattle.node_core.specs.declared.views.View.{View}
use Rattle.node_core.specs.Nodes.{view_at}
use Rattle.rows_cell.specs.declared.tables.Rows.{Rows}
use Rattle.rows_cell.specs.Rows.{map_of}
use Rattle.tags_cell.specs.declared.messages.requests.Request.{Request}
use Rattle.tags_cell.specs.declared.messages.requests.Request.TheVariants as requests
use Rattle.tags_cell.specs.declared.messages.outs.Out.{Out}
use Rattle.tags_cell.specs.declared.messages.outs.Out.TheVariants as outs
use Rattle.tags_cell.specs.declared.messages.beats.Invalidation.{Invalidation}
use Rattle.tags_cell.specs.declared.messages.requests.CallMessage.{CallMessage}
use Rattle.tags_cell.specs.declared.messages.outs.Reply.{Reply}
use Rattle.session_core.specs.declared.records.Parked.{Parked}
use Rattle.session_core.specs.declared.records.Session.{Session}
use Rattle.rights_core.specs.declared.cache_rights.CacheRight.{CacheRight}
use Rattle.rights_core.specs.Rights.{holds, invalidations_of}
use Rattle.rights_core.specs.Laws.{asked_for, given_back_of, number_or_0}
use Rattle.gate_core.specs.declared.pending.Waiting.{Waiting}
use Rattle.gate_core.specs.Laws.{touching}
use Rattle.master_parts.specs.declared.pending.Task.{Task}
use Rattle.master_parts.specs.declared.pending.Task.TheVariants as tasks
use Rattle.master_parts.specs.declared.pending.Work.{Work}
use Rattle.master_parts.specs.declared.pending.Work.TheVariants as works
use Rattle.master_state.specs.State.{MasterState}
use Rattle.master_state.specs.Lookups.{session_of}
use Rattle.cell_core.specs.Names.{name_asked, shown_by}
use Rattle.lease_core.specs.Lease.{LeaseTerms}
use Rattle.client_core.specs.Invalidations.{last_number}
use Rattle.cache_core.specs.Caches.{entry_of}
use Rattle.client_core.specs.State.{lease_of}
use Rattle.world_steps.specs.Messages.{call_of}
use Rattle.world_steps.specs.declared.mail.Message.{Message}
use Rattle.world_steps.specs.declared.mail.Message.TheVariants as messages
use Rattle.world_steps.specs.declared.members.WorldClient.{WorldClient}
use Rattle.world_steps.specs.World.{WorldState, member_of}

-- ---- the rows

abbrev pub standing_so : Bool → one.Session
standing_so true = one.Live
standing_so false = one.Ended

-- without a row: a session that has ended, or can't begin any more, where the number is late, and else none yet
abbrev pub standing_late : Bool → one.Session
standing_late true = one.Ended
standing_late false = one.Never

-- what the rows say of a client's session
abbrev pub standing_of : Bool → Option of_rows.SessionRow → one.Session
standing_of late None = standing_late late
standing_of late (Some session) = standing_so session.live

-- a client of this number that has no session gets none any more
abbrev pub is_late : Rows → ℕ → Bool
is_late rows client = nat_lt client rows.ended_below

abbrev pub standing_in : Rows → ℕ → one.Session
standing_in rows client = standing_of (is_late rows client) (lookup (is_at (nat_cmp client)) rows.sessions)

-- ---- the master's session

-- what is seen of a client's session in the master, or of there being none
pub record Seen : Type 0 where
  pub live : Bool
  pub timeout : ℕ
  pub acknowledged : ℕ
  -- a Beat of this epoch was taken
  pub beaten : Bool
  pub parked : List one.Receipt

abbrev pub parked_list : Option Parked → List one.Receipt
parked_list None = []
parked_list (Some beat) = record { number = beat.number; moment = beat.received } ∷ []

abbrev pub seen_of : Option (Session Reply) → Seen
seen_of None = record { live = false; timeout = 0; acknowledged = 0; beaten = false; parked = [] }
seen_of (Some session) = record {
  live = session.live;
  timeout = session.timeout;
  acknowledged = session.invalidations.acknowledged;
  beaten = nat_le 1 session.newest_beat;
  parked = parked_list session.parked;
}

-- no Start is committed during recovery, so a live session is known then by a Beat alone
abbrev pub heard_from : Bool → Seen → Bool
heard_from recovering seen = seen.live && (not recovering || seen.beaten)

-- ---- the client's right to the name

-- what is seen of it in the master, and how many invalidations the client was issued
pub record SeenRight : Type 0 where
  pub issued : ℕ
  pub held : Bool
  pub asked_back : ℕ
  pub given_back : ℕ

abbrev pub right_of : ℕ → List ℕ → List CacheRight → SeenRight
right_of client name rights = record {
  issued = invalidations_of client rights;
  held = holds client name rights;
  asked_back = number_or_0 (asked_for client name rights);
  given_back = given_back_of client name rights;
}

-- ---- Starts that wait

abbrev pub put_start : ℕ → ℕ → ℕ → Work → List one.Receipt
put_start client whose number (works.Starts principal received) = if client == whose then record { number = number; moment = received } ∷ [] else []
put_start client whose number (works.Calls call sequencer) = []

abbrev pub start_of : ℕ → Task → List one.Receipt
start_of client (tasks.Asked asked) = put_start client asked.client asked.number asked.work
start_of client (tasks.Tidies idle) = []

-- the receipts of a client's Starts that wait
abbrev pub starts_of : ℕ → List (Waiting Task) → List one.Receipt
starts_of client [] = []
starts_of client (w ∷ ws) = start_of client w.change.body ++ starts_of client ws

-- ---- the messages, the newest first

abbrev pub beat_of : ℕ → Request → List one.Beat → List one.Beat
beat_of client (requests.Start start) beats = if client == start.client then record { epoch = 0; number = start.number; processed = 0 } ∷ beats else beats
beat_of client (requests.Beat beat) beats =
    if client == beat.client then record { epoch = beat.epoch; number = beat.number; processed = beat.invalidations } ∷ beats else beats
beat_of client (requests.Call call) beats = beats

abbrev pub put_beat : ℕ → List one.Beat → Message → List one.Beat
put_beat client beats (messages.ToMaster request) = beat_of client request beats
put_beat client beats (messages.ToClient out) = beats

-- the Starts and Beats that a client has sent
abbrev pub beats_of : ℕ → List Message → List one.Beat
beats_of client sent = fold (put_beat client) [] sent

-- the number of the name's invalidation, or 0
abbrev pub name_number : List ℕ → List Invalidation → ℕ
name_number name [] = 0
name_number name (next ∷ others) = if bytes_eq name next.name then next.number else name_number name others

abbrev pub offer_of : ℕ → List ℕ → Out → List one.Offer → List one.Offer
offer_of client name (outs.Started started) offers =
    if client == started.client then record { epoch = started.epoch; number = started.number; span = started.span; last_invalidation = 0; name_invalidation = 0 } ∷ offers else offers
offer_of client name (outs.Alive alive) offers =
    if client == alive.client
    then record {
      epoch = alive.epoch;
      number = alive.number;
      span = alive.span;
      last_invalidation = last_number 0 alive.invalidations;
      name_invalidation = name_number name alive.invalidations;
    } ∷ offers
    else offers
offer_of client name (outs.Reply reply) offers = offers
offer_of client name (outs.Refused refused) offers = offers

abbrev pub put_offer : ℕ → List ℕ → List one.Offer → Message → List one.Offer
put_offer client name offers (messages.ToMaster request) = offers
put_offer client name offers (messages.ToClient out) = offer_of client name out offers

-- the leases that were offered to a client
abbrev pub offers_of : ℕ → List ℕ → List Message → List one.Offer
offers_of client name sent = fold (put_offer client name) [] sent

-- ---- grants

-- what a name shows: the view of its node, or that there is none
abbrev pub Shown : Type 0
Shown = Option View

abbrev pub Grants : Type 0
Grants = List (one.Grant Shown)

-- the call asks what this name shows
abbrev pub asks_for : List ℕ → List ℕ → Option CallMessage → Bool
asks_for secret name None = false
asks_for secret name (Some message) = option_map_or (λ asked. bytes_eq asked name) (name_asked secret message.call) false

-- a reply that may be kept grants the name
abbrev pub stamped_grant : Reply → Option ℕ → Grants → Grants
stamped_grant reply None grants = grants
stamped_grant reply (Some stamp) grants = record { epoch = reply.epoch; stamp = stamp; view = shown_by reply.result } ∷ grants

abbrev pub reply_grant : ℕ → List ℕ → List ℕ → Option CallMessage → Reply → Grants → Grants
reply_grant client name secret call reply grants =
    if client == reply.client && asks_for secret name call then stamped_grant reply reply.stamp grants else grants

-- by the call that it answers, which was sent before it
abbrev pub grant_of : ℕ → List ℕ → List ℕ → List Message → Out → Grants → Grants
grant_of client name secret before (outs.Started started) grants = grants
grant_of client name secret before (outs.Alive alive) grants = grants
grant_of client name secret before (outs.Reply reply) grants = reply_grant client name secret (call_of before reply.client reply.number) reply grants
grant_of client name secret before (outs.Refused refused) grants = grants

-- the messages that were looked at, and the grants among them
pub record GrantsSoFar : Type 0 where
  pub before : List Message
  pub grants : Grants

abbrev pub put_grant : ℕ → List ℕ → List ℕ → GrantsSoFar → Message → GrantsSoFar
put_grant client name secret granted (messages.ToMaster request) = record { before = granted.before ++ messages.ToMaster request ∷ []; grants = granted.grants }
put_grant client name secret granted (messages.ToClient out) =
    record { before = granted.before ++ messages.ToClient out ∷ []; grants = grant_of client name secret granted.before out granted.grants }

-- the grants of a name that were sent to a client, by the cell's secret
abbrev pub grants_of : ℕ → List ℕ → List ℕ → List Message → Grants
grants_of client name secret sent = (fold (put_grant client name secret) (record { before = []; grants = [] }) sent).grants

-- ---- the slice

-- a client's clock and the master's, at points of the master's life
pub record Clocks : Type 0 where
  pub client_when_up : ℕ
  pub least_now : ℕ
  pub least_client : ℕ

-- the clock of a client that hasn't joined stands at 0
abbrev pub clocks_of : ℕ → Option WorldClient → Clocks
clocks_of now None = record { client_when_up = 0; least_now = now; least_client = 0 }
clocks_of now (Some member) = record { client_when_up = member.clock_when_up; least_now = member.least_now; least_client = member.least_clock }

-- now: the master's clock
abbrev pub master_part : ℕ → List ℕ → ℕ → MasterState → Seen → SeenRight → Clocks → one.Master
master_part client name now s seen right clocks = record {
  up = true;
  now = now;
  lease_length = s.sessions.lease;
  recovering = s.recovering;
  client_when_up = clocks.client_when_up;
  least_now = clocks.least_now;
  least_client = clocks.least_client;
  received = seen.parked ++ starts_of client s.gate.waiting;
  timeout = seen.timeout;
  heard_from = heard_from s.recovering seen;
  issued = right.issued;
  acknowledged = seen.acknowledged;
  held = right.held;
  asked_back = right.asked_back;
  given_back = right.given_back;
  pending = touching name s.gate.waiting;
}

abbrev pub master_of : ℕ → List ℕ → ℕ → Option WorldClient → Option MasterState → one.Master
master_of client name now member None = nobody
master_of client name now member (Some s) = master_part client name now s (seen_of (session_of s client)) (right_of client name s.rights) (clocks_of now member)

-- a client that ends its session has no lease to serve under
abbrev pub lease_shown : Bool → Option LeaseTerms → LeaseTerms
lease_shown leaving lease = lease_of (if leaving then None else lease)

-- with its cache's entry of the name
abbrev pub client_of : List ℕ → Option WorldClient → one.Client Shown
client_of name None = record { now = 0; newest = 0; newest_sent = 0; epoch = 0; processed = 0; lease_sent = 0; lease_span = 0; entry = None; off = false }
client_of name (Some member) = record {
  now = member.clock;
  newest = member.client.beats;
  newest_sent = member.client.sent;
  epoch = member.client.epoch;
  processed = member.client.processed;
  lease_sent = (lease_shown member.client.leaving member.client.cache.lease).sent;
  lease_span = (lease_shown member.client.leaving member.client.cache.lease).span;
  entry = entry_of member.client.cache.entries name;
  off = member.client.leaving;
}

abbrev pub slice : ℕ → List ℕ → WorldState → Slice Shown
slice client name w = record {
  present = view_at (map_of w.rows) name;
  session = standing_in w.rows client;
  epoch = w.rows.epoch;
  master = master_of client name w.clock (member_of w client) w.master;
  client = client_of name (member_of w client);
  beats = beats_of client w.messages;
  offers = offers_of client name w.messages;
  grants = grants_of client name w.rows.secret w.messages;
}

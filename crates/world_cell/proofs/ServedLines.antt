-- Whatever a client serves from its cache is what the map holds of that name.
use Rattle.std.proofs.Common.{◌≡◌, ℕ, ◌+◌, Bool, true, false, cond, List, [], ◌∷◌, ◌++◌, map, Option, Some, None, Result, Ok, Err, inl, inr, refl, sym, subst, ap, arith, ◌∙◌}
use Rattle.std.specs.Prelude.{◌&&◌, nat_lt, IfOk, filter}
use Rattle.std.specs.Option.{option_to_list}
use Rattle.lease_core.specs.Lease.{IsUnexpired, is_unexpired}
use Rattle.coherence.proofs.Reached.{reached_serves_present}
use Rattle.node_core.specs.declared.events.Event.{Event}
use Rattle.node_core.specs.declared.refusals.Fault.{Fault}
use Rattle.node_core.specs.declared.refusals.Fault.TheVariants as faults
use Rattle.node_core.specs.declared.answers.Answer.TheVariants as answers
use Rattle.node_core.specs.declared.lines.Line.{Line}
use Rattle.node_core.specs.declared.lines.Line.TheVariants as lines
use Rattle.node_core.specs.declared.views.View.{View}
use Rattle.node_core.specs.Nodes.{Nodes, view_at}
use Rattle.rows_cell.specs.Rows.{map_of}
use Rattle.cache_core.specs.Caches.{entry_of, is_leased, answer}
use Rattle.cache_core.specs.Standings.{turn_line}
use Rattle.cache_core.specs.declared.standings.SessionTrust.{SessionTrust}
use Rattle.cache_core.specs.declared.standings.SessionTrust.TheVariants as standings
use Rattle.tags_cell.specs.declared.messages.outs.Out.{Out}
use Rattle.tags_cell.specs.declared.messages.outs.Reply.{Reply}
use Rattle.tags_cell.specs.declared.messages.beats.Alive.{Alive}
use Rattle.tags_cell.specs.declared.messages.beats.NumberedEvent.{NumberedEvent}
use Rattle.tags_cell.specs.Messages.{request_number, out_client}
use Rattle.rights_core.specs.declared.grants.Grant.{Grant}
use Rattle.rights_core.specs.declared.grants.Grant.TheVariants as grants
use Rattle.rights_core.specs.Rights.{grant_answer, numbers_ending}
use Rattle.tags_cell.specs.declared.messages.requests.Request.{Request}
use Rattle.lock_core.specs.Turns.{reopened}
use Rattle.lock_core.specs.Locks.{lock_at}
use Rattle.master_state.specs.State.{MasterState}
use Rattle.master_state.specs.Lookups.{acknowledgement, granted_lines, repeated_reply, noted}
use Rattle.master_state.specs.Updates.{with_note}
use Rattle.cell_core.specs.Cases.{TakeCase, taken_by}
use Rattle.cell_core.specs.Cases.TakeCase.{StartRefused, OldBeat, BeatRefused, BeatParked, OldEpoch, NoSession, LeftBefore, Repeated, OlderCall, Outstanding as StillOutstanding, Granted}
use Rattle.master_state.specs.Lapses.{lapses_lines, lapses_of, parting_lines}
use Rattle.over_core.specs.SweepCase.{SweepCase, swept_by}
use Rattle.over_core.specs.SweepCase.SweepCase.{Recovers, Expires, Reopens, Tidied, Started as StartedFirst, Applied, Deleted, Locked, Left, Departed as Leaves}
use Rattle.client_core.specs.declared.parts.asks.Ask.{Ask}
use Rattle.client_core.specs.declared.parts.sessions.ClientStanding.{ClientStanding}
use Rattle.client_core.specs.declared.parts.sessions.ClientStanding.TheVariants as sessions
use Rattle.client_core.specs.declared.parts.targets.Outstanding.{Outstanding}
use Rattle.client_core.specs.declared.parts.targets.Target.{Target}
use Rattle.client_core.specs.declared.parts.targets.Target.TheVariants as targets
use Rattle.client_core.specs.Targets.{is_on, unknown_line, unknown_lines}
use Rattle.client_core.specs.Events.{event_lines}
use Rattle.client_core.specs.State.{ClientState, standing_then, note_live, note_lines_in, note_lines}
use Rattle.client_core.specs.Poisons.{refused_lines, poison_lines}
use Rattle.client_core.specs.Gives.{with_processed, takes_offer, is_jeopardy, safe_lines}
use Rattle.client_core.specs.Cases.{noted_moment, AskCase, asked_in, BeatCase, beaten_in, GiveCase, given_in}
use Rattle.client_core.specs.Cases.AskCase.{AskedTooLate, Unsafe, Refused, ReadServed, AbsenceServed, Shared, OutOfHandles, Released, OutOfCalls, Sent, Poisoned}
use Rattle.client_core.specs.Cases.BeatCase.{BeatTooLate, OutOfBeats, Starts, Beats as BeatSent, Quiet}
use Rattle.client_core.specs.Cases.GiveCase.{GivenTooLate, OfAnother, Started, StartedUnfit, StartedDropped, LeaseTaken, LeaseStays, AliveUnfit, AliveDropped, OutOfNumbers, Replied, Installed, Departed, ReplyDropped, NotAwaited, Learns, Lost, TurnedAway, RefusalDropped}
use Rattle.world_steps.specs.declared.steps.Step.{Step}
use Rattle.world_steps.specs.declared.members.WorldClient.{WorldClient}
use Rattle.world_steps.specs.World.{WorldState, WorldView, IsUndoubted, is_of_commit, member_of, with_client, with_refusal, asked, beaten, gave, world_step}
use Rattle.world_cell.proofs.StepsHold.{does_holds}
use Rattle.world_cell.specs.Slices.{slice, client_of, lease_shown}
use Rattle.world_cell.specs.Consistent.{IsConsistent}
use Rattle.world_cell.specs.Runs.{map_by, map_at, Run}
use Rattle.world_steps.specs.Made.{Does, WasMade}
use Rattle.world_cell.proofs.SilentLines.{IsOther, AreOthers, both_others}
use Rattle.world_cell.proofs.LockLines.{reopened_of_locks, left_of_locks, lapses_of_locks}
use Rattle.world_steps.proofs.AsRead.{made_doubts, made_sure}
use Rattle.world_cell.specs.Served.{ServesPresent, ServesPresentByThen}
use Rattle.world_cell.proofs.Slices.{latest}
use Rattle.world_cell.proofs.EntryFacts.{is_leased_so}
use Rattle.world_cell.proofs.CutLines.{cut_lines}
use Rattle.world_cell.proofs.OwnSteps.{Comes, it_comes}
use Rattle.world_cell.proofs.RowsByRuns.{step_tells}
use Rattle.world_cell.proofs.WorldCases.{WorldCase, world_case}
use Rattle.world_cell.proofs.WorldCases.WorldCase.{ComesUp, Joins, Asks, Beats, Gives, Ticks, Takes, Sweeps, GoesDown, CutsSweep, CutsUp, LosesUp}
use Rattle.lock_core.specs.declared.partings.Parting.{Parting}
use Rattle.lock_core.specs.declared.partings.Parting.TheVariants as partings
use Rattle.master_state.specs.Partings.{right_line, ending_by}

-- ---- lines, one by one

abbrev IsPresentLine : Nodes → Line → Type 0
IsPresentLine nodes (lines.Served client name entry) = entry ≡ view_at nodes name
IsPresentLine nodes _ = Unit {0}

-- each by the map that the lines before it make
abbrev Serve : Nodes → List Line → Type 0
Serve nodes [] = Unit {0}
Serve nodes (line ∷ rest) = IsPresentLine nodes line × Serve (map_by nodes line) rest

-- each by this map
abbrev ServeAt : Nodes → List Line → Type 0
ServeAt nodes [] = Unit {0}
ServeAt nodes (line ∷ rest) = IsPresentLine nodes line × ServeAt nodes rest

at_then : (before rest : List Line) (client : ℕ) (name : List ℕ) (entry : Option View) (nodes : Nodes) → Serve nodes (before ++ lines.Served client name entry ∷ rest) → entry ≡ view_at (map_at nodes before) name
at_then [] rest client name entry nodes h = h.0
at_then (line ∷ before) rest client name entry nodes h = at_then before rest client name entry (map_by nodes line) h.1

present_by_then : (nodes : Nodes) (printed : List Line) → Serve nodes printed → ServesPresentByThen nodes printed
present_by_then nodes printed h before rest client name entry is = at_then before rest client name entry nodes (subst (Serve nodes) is h)

at_last : (before rest : List Line) (client : ℕ) (name : List ℕ) (entry : Option View) (nodes : Nodes) → ServeAt nodes (before ++ lines.Served client name entry ∷ rest) → entry ≡ view_at nodes name
at_last [] rest client name entry nodes h = h.0
at_last (line ∷ before) rest client name entry nodes h = at_last before rest client name entry nodes h.1

present : (nodes : Nodes) (printed : List Line) → ServeAt nodes printed → ServesPresent nodes printed
present nodes printed h before rest client name entry is = at_last before rest client name entry nodes (subst (ServeAt nodes) is h)

serve_more : (nodes : Nodes) (xs ys : List Line) → Serve nodes xs → Serve (map_at nodes xs) ys → Serve nodes (xs ++ ys)
serve_more nodes [] ys h k = k
serve_more nodes (x ∷ xs) ys h k = (h.0, serve_more (map_by nodes x) xs ys h.1 k)

-- ---- lines that serve nothing

other_line : (nodes : Nodes) (line : Line) → IsOther line → IsPresentLine nodes line
other_line nodes (lines.Served client name entry) h = absurd h
other_line nodes _ h = tt

others_serve : (nodes : Nodes) (printed : List Line) → AreOthers printed → Serve nodes printed
others_serve nodes [] h = tt
others_serve nodes (line ∷ rest) h = (other_line nodes line h.0, others_serve (map_by nodes line) rest h.1)

others_at : (nodes : Nodes) (printed : List Line) → AreOthers printed → ServeAt nodes printed
others_at nodes [] h = tt
others_at nodes (line ∷ rest) h = (other_line nodes line h.0, others_at nodes rest h.1)

each_other : (line : ℕ → Line) → ((number : ℕ) → IsOther (line number)) → (numbers : List ℕ) → AreOthers (map line numbers)
each_other line other [] = tt
each_other line other (number ∷ numbers) = (other number, each_other line other numbers)

-- ---- a step's lines

-- they serve what is there, before the step and after it
record StepServes (old new : WorldState) (printed : List Line) : Type 0 where
  before : Serve (map_of old.rows) printed
  behind : ServeAt (map_of new.rows) printed

others_step : (old new : WorldState) (printed : List Line) → AreOthers printed → StepServes old new printed
others_step old new printed h = record { before = others_serve (map_of old.rows) printed h; behind = others_at (map_of new.rows) printed h }

application_other : (number : ℕ) (former now : SessionTrust) → AreOthers (option_to_list (turn_line number former now))
application_other number standings.Safe standings.Safe = tt
application_other number standings.Safe (standings.Jeopardy since) = (tt, tt)
application_other number standings.Safe standings.Lost = (tt, tt)
application_other number (standings.Jeopardy since) standings.Safe = (tt, tt)
application_other number (standings.Jeopardy since) (standings.Jeopardy later) = tt
application_other number (standings.Jeopardy since) standings.Lost = (tt, tt)
application_other number standings.Lost now = tt

noted_other : (s : ClientState) (session : ClientStanding) (moment : ℕ) → AreOthers (note_lines_in session s moment)
noted_other s sessions.Unstarted moment = tt
noted_other s sessions.Live moment = application_other s.number s.standing (standing_then s moment)
noted_other s sessions.Lost moment = tt
noted_other s sessions.TurnedAway moment = tt

told_other : (s : ClientState) (moment : ℕ) (more : List Line) → AreOthers more → AreOthers (note_lines s moment ++ more)
told_other s moment more h = both_others (note_lines s moment) more (noted_other s s.session moment) h

refusal_other : (told : List Line) (fault : Fault) → AreOthers told → AreOthers (with_refusal told fault)
refusal_other told fault h = both_others told (lines.Refused fault ∷ []) h (tt, tt)

if_other : (b : Bool) (line : Line) → IsOther line → AreOthers (cond b (line ∷ []) [])
if_other true line h = (h, tt)
if_other false line h = tt

safe_other : (s : ClientState) (moment : ℕ) (message : Alive) → AreOthers (safe_lines s moment message)
safe_other s moment message = if_other (takes_offer s message && (is_unexpired s.sent message.span moment && is_jeopardy s.standing)) (lines.Safe s.number) tt

told_if : (b : Bool) (client : ℕ) (event : Event) (more : List Line) → AreOthers more → AreOthers (cond b (lines.Told client event ∷ more) more)
told_if true client event more h = (tt, h)
told_if false client event more h = h

events_other : (client processed : ℕ) (events : List NumberedEvent) → AreOthers (event_lines client processed events)
events_other client processed [] = tt
events_other client processed (next ∷ others) = told_if (nat_lt processed next.number) client next.event (event_lines client processed others) (events_other client processed others)

target_other : (client : ℕ) (call : Outstanding) (target : Target) → AreOthers (unknown_line client call target)
target_other client call targets.Dropped = tt
target_other client call _ = (tt, tt)

unknown_other : (client : ℕ) (o : Option Outstanding) → AreOthers (unknown_lines client o)
unknown_other client None = tt
unknown_other client (Some call) = target_other client call call.target

poison_other : (s : ClientState) (number : ℕ) (o : Option Outstanding) → AreOthers (refused_lines s number o)
poison_other s number None = tt
poison_other s number (Some call) = if_other (is_on number call.target) (lines.Done s.number (request_number call.request) (answers.Refused faults.Poisoned)) tt

-- ---- what a cache answers

answered_by : (enabled leased : Bool) (entry : Option (Option View)) (view : Option View) → cond (enabled && leased) entry None ≡ Some view → (leased ≡ true) × (entry ≡ Some view)
answered_by true true entry view h = (refl, h)
answered_by true false entry view h = cc
answered_by false leased entry view h = cc

module _ (w : WorldState) (h : IsConsistent w) (number : ℕ) (member : WorldClient) (found : member_of w number ≡ Some member) where
  abbrev s : ClientState
  s = member.client

  abbrev then : ℕ
  then = noted_moment s member.clock

  -- it is the present view of the name
  answer_is_present : (name : List ℕ) (entry : Option View) → s.leaving ≡ false → answer s.cache then name ≡ Some entry → entry ≡ view_at (map_of w.rows) name
  answer_is_present name entry on is =
      let a = answered_by s.cache.enabled (is_leased s.cache.lease then) (entry_of s.cache.entries name) entry is in
      let leased : is_leased s.cache.lease member.clock ≡ true = subst (λ (n : ℕ). is_leased s.cache.lease n ≡ true) (latest s.clock member.clock (h.clients number member found).noted) a.0 in
      let shown : IsUnexpired (lease_shown s.leaving s.cache.lease).sent (lease_shown s.leaving s.cache.lease).span member.clock =
      subst (λ (b : Bool). IsUnexpired (lease_shown b s.cache.lease).sent (lease_shown b s.cache.lease).span member.clock) (sym on) (is_leased_so s.cache.lease member.clock leased) in
      reached_serves_present (slice number name w) (h.reached number name) entry
      (subst (λ (o : Option WorldClient). (client_of name o).entry ≡ Some entry) (sym found) a.1)
      (subst (λ (o : Option WorldClient). IsUnexpired (client_of name o).lease_sent (client_of name o).lease_span (client_of name o).now) (sym found) shown)

  served_step : (client : ClientState) (whose : ℕ) (name : List ℕ) (entry : Option View) (more : List Line) → s.leaving ≡ false → answer s.cache then name ≡ Some entry → AreOthers more → StepServes w (with_client w number member client) (lines.Served whose name entry ∷ more)
  served_step client whose name entry more on is others =
      let e = answer_is_present name entry on is in
      record { before = (e, others_serve (map_of w.rows) more others); behind = (e, others_at (map_of w.rows) more others) }

  ask_serves : (ask : Ask) (c : AskCase s member.clock ask) → Comes (StepServes w) (asked w number member (asked_in s member.clock ask c))
  ask_serves ask (AskedTooLate late) = tt
  ask_serves ask (Unsafe fault early is) = others_step w _ (with_refusal (note_lines s then) fault) (refusal_other (note_lines s then) fault (noted_other s s.session then))
  ask_serves ask (Refused fault safe is) = others_step w _ (lines.Refused fault ∷ []) (tt, tt)
  ask_serves ask (ReadServed handle mine call entry given safe is readable) = served_step _ s.number mine.name entry [] readable.stays readable.cached tt
  ask_serves ask (AbsenceServed opening safe on is plain cached) = served_step _ s.number opening.name None [] on cached tt
  ask_serves ask (Shared opening view handle safe is shared room) = served_step _ s.number opening.name (Some view) (lines.Done s.number 0 (answers.Opened (s.opened + 1)) ∷ []) shared.stays shared.cached (tt, tt)
  ask_serves ask (OutOfHandles opening view handle safe is shared last) = tt
  ask_serves ask (Released handle mine safe is there shared) = others_step w _ (lines.Done s.number 0 answers.Closed ∷ []) (tt, tt)
  ask_serves ask (OutOfCalls call sequencer target sendable last) = tt
  ask_serves ask (Sent call sequencer target sendable room) = others_step w _ [] tt
  ask_serves ask (Poisoned handle mine safe is usable) = others_step w _ (poison_lines s handle) (both_others (refused_lines s handle s.outstanding) (lines.Done s.number 0 answers.Poisoned ∷ []) (poison_other s handle s.outstanding) (tt, tt))

  beat_serves : (c : BeatCase s member.clock) → Comes (StepServes w) (beaten w number member (beaten_in s member.clock c))
  beat_serves (BeatTooLate late) = tt
  beat_serves (OutOfBeats early last) = tt
  beat_serves (Starts early unstarted room) = others_step w _ [] tt
  beat_serves (BeatSent early live safe room) = others_step w _ (note_lines s then) (noted_other s s.session then)
  beat_serves (Quiet early started live) = others_step w _ (note_lines s then) (noted_other s s.session then)

  tells_only : (new : WorldState) (more : List Line) → AreOthers more → StepServes w new (note_lines s then ++ more)
  tells_only new more others = others_step w new (note_lines s then ++ more) (told_other s then more others)

  refuses : (new : WorldState) (fault : Fault) → StepServes w new (with_refusal (note_lines s then ++ []) fault)
  refuses new fault = others_step w new (with_refusal (note_lines s then ++ []) fault) (refusal_other (note_lines s then ++ []) fault (told_other s then [] tt))

  give_serves : (out : Out) (c : GiveCase s member.clock out) → Comes (StepServes w) (gave w number member (given_in s member.clock out c))
  give_serves out (GivenTooLate late) = tt
  give_serves out (OfAnother early other) = tells_only _ [] tt
  give_serves out (Started message heard is standing fits) = tells_only _ [] tt
  give_serves out (StartedUnfit message heard is standing long) = refuses _ faults.ProtocolFault
  give_serves out (StartedDropped message heard is old) = tells_only _ [] tt
  give_serves out (LeaseTaken message heard is fit taken) =
      let behind = with_processed (note_live s then) message in
      let events = event_lines s.number s.heard message.events in
      tells_only _ (events ++ safe_lines behind then message) (both_others events (safe_lines behind then message) (events_other s.number s.heard message.events) (safe_other behind then message))
  give_serves out (LeaseStays message heard is fit worse) = tells_only _ (event_lines s.number s.heard message.events) (events_other s.number s.heard message.events)
  give_serves out (AliveUnfit message heard is alive unfit) = refuses _ faults.ProtocolFault
  give_serves out (AliveDropped message heard is strange) = tells_only _ [] tt
  give_serves out (OutOfNumbers message call heard is for last) = tt
  give_serves out (Replied message call heard is for room kept plain) = tells_only _ (lines.Done s.number message.number _ ∷ []) (tt, tt)
  give_serves out (Installed message call taught_it stamp heard is for learned) = tells_only _ (lines.Done s.number message.number _ ∷ []) (tt, tt)
  give_serves out (Departed message call heard is for leaving done) = tells_only _ (lines.Done s.number message.number _ ∷ []) (tt, tt)
  give_serves out (ReplyDropped message call heard is for dropped) = tells_only _ [] tt
  give_serves out (NotAwaited message heard is none) = tells_only _ [] tt
  give_serves out (Learns message present heard is later) = tells_only _ (unknown_lines s.number s.outstanding) (unknown_other s.number s.outstanding)
  give_serves out (Lost message heard is loss) = tells_only _ (lines.Lost s.number ∷ []) (tt, tt)
  give_serves out (TurnedAway message heard is fault unstarted) = tells_only _ (lines.Lost s.number ∷ []) (tt, tt)
  give_serves out (RefusalDropped message heard is earlier stays_so) = tells_only _ [] tt

-- ---- the master's lines

repeated_other : (o : Option Reply) → AreOthers (repeated_reply o).lines
repeated_other None = tt
repeated_other (Some reply) = tt

granted_other : (client : ℕ) (name : List ℕ) (r : Result Grant Fault) → AreOthers (granted_lines client name r)
granted_other client name (Ok (grants.Granted number)) = (tt, tt)
granted_other client name (Ok (grants.Already number)) = tt
granted_other client name (Ok grants.Full) = tt
granted_other client name (Err fault) = tt

taken_other : (s : MasterState) (request : Request) (c : TakeCase s request) → AreOthers (taken_by s request c).1.lines
taken_other s request (StartRefused start is may) = (tt, tt)
taken_other s request (OldBeat beat is apart) = (tt, tt)
taken_other s request (BeatRefused beat fault is of refused) = (tt, tt)
taken_other s request (BeatParked beat is of taken) = each_other lines.Acked (λ number. tt) (numbers_ending beat.client (acknowledgement beat) s.rights)
taken_other s request (OldEpoch message is apart) = (tt, tt)
taken_other s request (NoSession message is of dead) = (tt, tt)
taken_other s request (LeftBefore message kept request_is same_epoch ended is number) = repeated_other kept.reply
taken_other s request (Repeated message kept heard is number) = repeated_other kept.reply
taken_other s request (OlderCall message kept heard is less) = (tt, tt)
taken_other s request (StillOutstanding message kept heard is more none) = (tt, tt)
taken_other s request (Granted message note answer name new serving may) = granted_other message.client name (grant_answer message.client name (with_note s note).rights)
taken_other s request _ = tt

own_right : (parting : Parting) (number : ℕ) → IsOther (right_line parting number)
own_right partings.Expiry number = tt
own_right partings.Leave number = tt

ended_other : (parting : Parting) (s : MasterState) (client : ℕ) → AreOthers (parting_lines parting s client (lapses_of parting s client))
ended_other parting s client =
    let ends = map (right_line parting) (numbers_ending client (ending_by parting) s.rights) in
    both_others (ends ++ lapses_lines parting client (lapses_of parting s client)) (lines.Ended client ∷ [])
    (both_others ends (lapses_lines parting client (lapses_of parting s client)) (each_other (right_line parting) (own_right parting) (numbers_ending client (ending_by parting) s.rights)) (lapses_of_locks parting client (lapses_of parting s client)).others) (tt, tt)

swept_other : (s : MasterState) (c : SweepCase s) → AreOthers (swept_by s c).1.lines
swept_other s (Recovers recovering heard) = (tt, tt)
swept_other s (Expires client session due) = ended_other partings.Expiry s client
swept_other s (Leaves front back asked call sequencer session turn work leave found live) = ended_other partings.Leave s asked.client
swept_other s (Reopens instance due) = (reopened_of_locks instance (reopened (lock_at s.locks instance))).others
swept_other s (StartedFirst front back asked principal received turn work none) = (tt, tt)
swept_other s (Applied front back asked call sequencer _ change answer turn work stays live made) = (tt, tt)
swept_other s (Deleted front back asked call sequencer change instance waiters answer turn work stays live made) = (tt, tt)
swept_other s (Tidied front back idle turn still) = (tt, tt)
swept_other s (Locked front back asked call sequencer put claim answer turn work stays live made) = (tt, tt)
swept_other s (Left front back asked call sequencer _ leave answer turn work stays live made) = (left_of_locks asked.client leave).others
swept_other s _ = tt

-- ---- a step

cut_others : (told : List Line) → AreOthers told → AreOthers (cut_lines told)
cut_others [] h = (tt, tt)
cut_others (line ∷ told) h =
    elim (is_of_commit line) as (λ b. AreOthers (cond b (line ∷ filter is_of_commit told) (filter is_of_commit told) ++ lines.Down ∷ [])) [
      | true ↦ (h.0, cut_others told h.1)
      | false ↦ cut_others told h.1
    ]

case_serves : (old : WorldState) (step : Step) (new : WorldState) (printed : List Line) → IsConsistent old → WorldCase old step new printed → StepServes old new printed
case_serves old step new printed h (ComesUp u) = others_step old new printed (subst AreOthers (sym u.tells) (tt, tt))
case_serves old step new printed h (Joins j) = others_step old new printed (subst AreOthers (sym j.tells) tt)
case_serves old step new printed h (Asks a) = it_comes (StepServes old) (asked old a.number a.member (asked_in a.member.client a.member.clock a.ask a.case)) new printed a.is (ask_serves old h a.number a.member a.found a.ask a.case)
case_serves old step new printed h (Beats b) = it_comes (StepServes old) (beaten old b.number b.member (beaten_in b.member.client b.member.clock b.case)) new printed b.is (beat_serves old h b.number b.member b.found b.case)
case_serves old step new printed h (Gives g) = it_comes (StepServes old) (gave old (out_client g.out) g.member (given_in g.member.client g.member.clock g.out g.case)) new printed g.is (give_serves old h (out_client g.out) g.member g.found g.out g.case)
case_serves old step new printed h (Ticks t) = others_step old new printed (subst AreOthers (sym t.tells) tt)
case_serves old step new printed h (Takes t) = others_step old new printed (subst AreOthers (sym t.tells) (taken_other (noted t.master old.clock) t.request t.case))
case_serves old step new printed h (Sweeps t) = others_step old new printed (subst AreOthers (sym t.tells) (swept_other (noted t.master old.clock) t.case))
case_serves old step new printed h (GoesDown d) = others_step old new printed (subst AreOthers (sym d.tells) (tt, tt))
case_serves old step new printed h (CutsSweep k) =
    let t = k.sweeps in
    others_step old new printed (subst AreOthers (sym k.tells) (cut_others k.told (subst AreOthers (sym t.tells) (swept_other (noted t.master old.clock) t.case))))
case_serves old step new printed h (CutsUp k) = others_step old new printed (subst AreOthers (sym (k.tells ∙ ap (λ told. told ++ lines.Down ∷ []) k.comes.tells)) (tt, (tt, tt)))
case_serves old step new printed h (LosesUp k) = others_step old new printed (subst AreOthers (sym k.tells) (tt, tt))

-- whatever a client serves in a step is what the rows hold
pub step_serves : (old : WorldState) (step : Step) (new : WorldState) (printed : List Line) → IsConsistent old → world_step old step ≡ Ok (new, printed) → ServesPresent (map_of new.rows) printed
step_serves old step new printed h made = present (map_of new.rows) printed (case_serves old step new printed h (world_case old step new printed h.master made)).behind

pub told_serves : (old : WorldView) (step : Step) (new : WorldView) (r : Result (List Line) Fault) → (IsUndoubted old → IsConsistent old.world) → IfOk r (λ printed. WasMade old step new printed) → IfOk r (λ printed. IsUndoubted new → ServesPresent (map_of new.world.rows) printed)
told_serves old step new (Ok printed) fits made = λ none.
    let rises = made_doubts old step new printed made in
    let sure : old.doubt ≡ 0 = omega arith in
    step_serves old.world step new.world printed (fits sure) (made_sure old step new printed made none).is_step
told_serves old step new (Err fault) fits made = tt

does_serve : (old : WorldView) (step : Step) (new : WorldView) (printed : List Line) → IsConsistent old.world → Does old step new printed → Serve (map_of old.world.rows) printed
does_serve old step new printed h (inl m) = (case_serves old.world step new.world printed h (world_case old.world step new.world printed h.master m.is_step)).before
does_serve old step new printed h (inr r) = subst (Serve (map_of old.world.rows)) (sym r.line) (tt, tt)

-- ---- a run

run_lines : (old : WorldView) (steps : List Step) (printed : List Line) (new : WorldView) → IsConsistent old.world → Run old steps printed new → Serve (map_of old.world.rows) printed
run_lines old [] printed new h run = subst (Serve (map_of old.world.rows)) (sym run.0) tt
run_lines old (step ∷ steps) printed new h run =
    let here = does_serve old step run.0 run.1 h run.3 in
    let map_there = (step_tells old step run.0 run.1 h run.3).is_map in
    let rest = run_lines run.0 steps run.2 new (does_holds old step run.0 run.1 h run.3) run.4 in
    subst (Serve (map_of old.world.rows)) (sym run.5)
    (serve_more (map_of old.world.rows) run.1 run.2 here (subst (λ (nodes : Nodes). Serve nodes run.2) map_there rest))

-- and whatever is served in a run is what the map holds by then
pub run_serves : (old : WorldView) (steps : List Step) (printed : List Line) (new : WorldView) → IsConsistent old.world → Run old steps printed new → ServesPresentByThen (map_of old.world.rows) printed
run_serves old steps printed new h run = present_by_then (map_of old.world.rows) printed (run_lines old steps printed new h run)

-- What a world comes to where a client is asked, beats or is given a message.
use Rattle.std.proofs.Common.{◌≡◌, ℕ, ◌+◌, ◌<◌, max, List, [], ◌∷◌, ◌++◌, Bool, true, false, cond, Ok, Err, Option, Some, None, refl, sym, ◌∙◌, subst, inl, inr}
use Rattle.std.specs.Prelude.{◌&&◌, nat_lt, ◌||◌}
use Rattle.std.specs.Option.{option_to_list}
use Rattle.std.proofs.lemmas.List.{append-nil}
use Rattle.lease_core.specs.Lease.{is_unexpired}
use Rattle.cache_core.specs.Standings.{turn_line}
use Rattle.cache_core.specs.declared.standings.SessionTrust.{SessionTrust}
use Rattle.cache_core.specs.declared.standings.SessionTrust.TheVariants as standings
use Rattle.node_core.specs.declared.events.Event.{Event}
use Rattle.node_core.specs.declared.refusals.Fault.{Fault}
use Rattle.node_core.specs.declared.refusals.Fault.TheVariants as faults
use Rattle.node_core.specs.declared.lines.Line.{Line}
use Rattle.node_core.specs.declared.lines.Line.TheVariants as lines
use Rattle.node_core.specs.declared.answers.Answer.TheVariants as answers
use Rattle.tags_cell.specs.declared.messages.requests.Request.{Request}
use Rattle.tags_cell.specs.declared.messages.requests.Request.TheVariants as requests
use Rattle.tags_cell.specs.declared.messages.requests.CallMessage.{CallMessage}
use Rattle.tags_cell.specs.declared.messages.outs.Out.{Out}
use Rattle.tags_cell.specs.declared.messages.outs.Out.TheVariants as outs
use Rattle.tags_cell.specs.declared.messages.outs.Started.{Started as StartedMessage}
use Rattle.tags_cell.specs.declared.messages.outs.Refused.{Refused as RefusedMessage}
use Rattle.tags_cell.specs.declared.messages.beats.Alive.{Alive as AliveMessage}
use Rattle.tags_cell.specs.declared.messages.beats.NumberedEvent.{NumberedEvent}
use Rattle.tags_cell.specs.declared.messages.outs.CallResult.{CallResult}
use Rattle.tags_cell.specs.declared.messages.outs.CallResult.TheVariants as results
use Rattle.tags_cell.specs.Messages.{request_number, out_client, is_leave}
use Rattle.client_core.specs.declared.parts.asks.Ask.{Ask}
use Rattle.client_core.specs.declared.parts.sessions.ClientStanding.{ClientStanding}
use Rattle.client_core.specs.declared.parts.sessions.ClientStanding.TheVariants as sessions
use Rattle.client_core.specs.declared.parts.targets.Target.{Target}
use Rattle.client_core.specs.declared.parts.targets.Target.TheVariants as targets
use Rattle.client_core.specs.declared.parts.targets.Outstanding.{Outstanding}
use Rattle.client_core.specs.Opens.{kept_handle}
use Rattle.client_core.specs.Targets.{is_on, unknown_line, unknown_lines, is_leaving}
use Rattle.client_core.specs.Events.{event_lines}
use Rattle.client_core.specs.State.{ClientState, at_moment, standing_then, session_behind, note_in, note, note_live, note_lines_in, note_lines}
use Rattle.client_core.specs.Asks.{with_call, with_shared, without_handle}
use Rattle.client_core.specs.Poisons.{refused_lines, poison_lines, with_poisoned}
use Rattle.client_core.specs.Beats.{start_message, beat_message, with_beat}
use Rattle.client_core.specs.Gives.{offered, begun, with_processed, bettered, takes_offer, is_jeopardy, safe_lines, answer_of, ended_plainly, with_lesson, learned, lost, departed}
use Rattle.client_core.specs.Cases.{noted_moment, IsLive, AskCase, asked_in, BeatCase, beaten_in, GiveCase, given_in}
use Rattle.client_core.specs.Cases.AskCase.{AskedTooLate, Unsafe, Refused, ReadServed, AbsenceServed, Shared, OutOfHandles, Released, OutOfCalls, Sent, Poisoned}
use Rattle.client_core.specs.Cases.BeatCase.{BeatTooLate, OutOfBeats, Starts, Beats, Quiet}
use Rattle.client_core.specs.Cases.GiveCase.{GivenTooLate, OfAnother, Started, StartedUnfit, StartedDropped, LeaseTaken, LeaseStays, AliveUnfit, AliveDropped, OutOfNumbers, Replied, Installed, Departed, ReplyDropped, NotAwaited, Learns, Lost, TurnedAway, RefusalDropped}
use Rattle.client_core.proofs.Noting.{unstarted_before, note_number, note_clock, note_epoch, note_session, note_leaving}
use Rattle.client_core.proofs.Leases.{SessionStays, note_keeps, behind_live}
use Rattle.world_steps.specs.declared.steps.Step.{Step}
use Rattle.world_steps.specs.declared.mail.Message.{Message}
use Rattle.world_steps.specs.declared.mail.Message.TheVariants.{ToMaster}
use Rattle.world_steps.specs.declared.members.WorldClient.{WorldClient}
use Rattle.world_steps.specs.Members.{stepped}
use Rattle.world_steps.specs.Messages.{out_at}
use Rattle.world_steps.specs.World.{WorldState, Outcome, member_of, with_client, with_refusal, asked, beaten, gave}
use Rattle.world_cell.proofs.SilentLines.{IsSilent, IsCalm, append_calm, calm_quiet, quiet_silent}
use Rattle.world_cell.proofs.WorldCases.{IsAsk, IsBeat, IsGive}

-- a Start or a Beat
abbrev pub IsNoCall : Request → Type 0
IsNoCall (requests.Call call) = ⊥
IsNoCall _ = Unit {0}

-- the client's next call, in its epoch
pub record IsNextCall (s : ClientState) (call : CallMessage) : Type 0 where
  pub client : call.client ≡ s.number
  pub number : call.number ≡ s.calls + 1
  pub epoch : call.epoch ≡ s.epoch

-- what a client sends, and how many calls it has made then
pub data Sends (s new : ClientState) (sent : Option Request) : Type 0 where
  Nothing : sent ≡ None → new.calls ≡ s.calls → Sends s new sent
  NoCall : (request : Request) → sent ≡ Some request → IsNoCall request → new.calls ≡ s.calls → Sends s new sent
  NextCall : (call : CallMessage) → sent ≡ Some (requests.Call call) → IsNextCall s call → new.calls ≡ s.calls + 1 → Sends s new sent

-- it stays in its epoch, gets its session by a Started that was sent, or is told in its session of a later epoch
pub data OfEpoch (sent : List Message) (s new : ClientState) : Type 0 where
  SameEpoch : new.epoch ≡ s.epoch → (new.session ≡ sessions.Unstarted → s.session ≡ sessions.Unstarted) → (new.session ≡ sessions.Live → s.session ≡ sessions.Live) → OfEpoch sent s new
  GrantedEpoch : (at : ℕ) (started : StartedMessage) → out_at sent at ≡ Some (outs.Started started) → new.epoch ≡ started.epoch → new.session ≡ sessions.Live → OfEpoch sent s new
  LearnedEpoch : (at present : ℕ) (refused : RefusedMessage) → out_at sent at ≡ Some (outs.Refused refused) → refused.fault ≡ faults.OldEpoch present → s.epoch < present → new.epoch ≡ present → new.session ≡ sessions.Live → OfEpoch sent s new

-- what is after the messages then
abbrev pub sending : Option Request → List Message
sending None = []
sending (Some request) = ToMaster request ∷ []

-- one client does a step: it is in the place of what it was, and what it sends is after all messages
pub record IsOwn (old new : WorldState) (printed : List Line) : Type 0 where
  pub number : ℕ
  pub member : WorldClient
  pub found : member_of old number ≡ Some member
  pub client : ClientState
  pub sent : Option Request
  pub is : new ≡ record old { clients = stepped old.clients number member client; messages = new.messages }
  pub grown : new.messages ≡ old.messages ++ sending sent
  pub quiet : IsCalm printed
  pub own : client.number ≡ member.client.number
  pub notes : client.clock ≡ max member.client.clock member.clock
  pub sends : Sends member.client client sent
  -- one that ends its session goes on to, and it has begun to where it asks for that
  pub keeps : member.client.leaving ≡ true → client.leaving ≡ true
  pub departs : (call : CallMessage) → sent ≡ Some (requests.Call call) → is_leave call.call ≡ true → client.leaving ≡ true
  pub epoch : OfEpoch old.messages member.client client

pub own_silent : (old new : WorldState) (printed : List Line) → IsOwn old new printed → IsSilent printed
own_silent old new printed o = quiet_silent printed (calm_quiet printed o.quiet)

-- ---- what an outcome comes to, where it is no refusal of the step

abbrev pub Comes : (WorldState → List Line → Type 0) → Outcome → Type 0
Comes P (Ok p) = P p.0 p.1
Comes P (Err fault) = Unit {0}

pub it_comes : (P : WorldState → List Line → Type 0) (outcome : Outcome) (new : WorldState) (printed : List Line) → outcome ≡ Ok (new, printed) → Comes P outcome → P new printed
it_comes P outcome new printed is h = let k : Comes P (Ok (new, printed)) = subst (Comes P) is h in k

-- ---- the noting of the time

application_quiet : (number : ℕ) (before after : SessionTrust) → IsCalm (option_to_list (turn_line number before after))
application_quiet number standings.Safe standings.Safe = tt
application_quiet number standings.Safe (standings.Jeopardy since) = (tt, tt, tt)
application_quiet number standings.Safe standings.Lost = (tt, tt, tt)
application_quiet number (standings.Jeopardy since) standings.Safe = (tt, tt, tt)
application_quiet number (standings.Jeopardy since) (standings.Jeopardy later) = tt
application_quiet number (standings.Jeopardy since) standings.Lost = (tt, tt, tt)
application_quiet number standings.Lost after = tt

noted_in_quiet : (s : ClientState) (session : ClientStanding) (moment : ℕ) → IsCalm (note_lines_in session s moment)
noted_in_quiet s sessions.Unstarted moment = tt
noted_in_quiet s sessions.Live moment = application_quiet s.number s.standing (standing_then s moment)
noted_in_quiet s sessions.Lost moment = tt
noted_in_quiet s sessions.TurnedAway moment = tt

-- it tells of nothing but how the client stands
pub noted_quiet : (s : ClientState) (moment : ℕ) → IsCalm (note_lines s moment)
noted_quiet s moment = noted_in_quiet s s.session moment

told_quiet : (s : ClientState) (moment : ℕ) (more : List Line) → IsCalm more → IsCalm (note_lines s moment ++ more)
told_quiet s moment more quiet = append_calm (note_lines s moment) more (noted_quiet s moment) quiet

refusal_quiet : (told : List Line) (fault : Fault) → IsCalm told → IsCalm (with_refusal told fault)
refusal_quiet told fault quiet = append_calm told (lines.Refused fault ∷ []) quiet (tt, tt, tt)

pub note_calls : (s : ClientState) (session : ClientStanding) (moment : ℕ) → (note_in session s moment).calls ≡ s.calls
note_calls s sessions.Unstarted moment = refl
note_calls s sessions.Live moment = refl
note_calls s sessions.Lost moment = refl
note_calls s sessions.TurnedAway moment = refl

safe_by : (b : Bool) (number : ℕ) → IsCalm (cond b (lines.Safe number ∷ []) [])
safe_by true number = (tt, tt, tt)
safe_by false number = tt

safe_quiet : (s : ClientState) (moment : ℕ) (message : AliveMessage) → IsCalm (safe_lines s moment message)
safe_quiet s moment message = safe_by (takes_offer s message && (is_unexpired s.sent message.span moment && is_jeopardy s.standing)) s.number

-- a client prints a line for each event that is new to it
told_if : (b : Bool) (client : ℕ) (event : Event) (more : List Line) → IsCalm more → IsCalm (cond b (lines.Told client event ∷ more) more)
told_if true client event more quiet = (tt, tt, quiet)
told_if false client event more quiet = quiet

events_quiet : (client processed : ℕ) (events : List NumberedEvent) → IsCalm (event_lines client processed events)
events_quiet client processed [] = tt
events_quiet client processed (next ∷ others) =
    told_if (nat_lt processed next.number) client next.event (event_lines client processed others) (events_quiet client processed others)

target_quiet : (client : ℕ) (call : Outstanding) (target : Target) → IsCalm (unknown_line client call target)
target_quiet client call targets.Dropped = tt
target_quiet client call _ = (tt, tt, tt)

unknown_quiet : (client : ℕ) (o : Option Outstanding) → IsCalm (unknown_lines client o)
unknown_quiet client None = tt
unknown_quiet client (Some call) = target_quiet client call call.target

-- who is in a session then was in it before
live_before : (s new : ClientState) → SessionStays s new → new.session ≡ sessions.Live → s.session ≡ sessions.Live
live_before s new (inl same) e = sym same ∙ e
live_before s new (inr left) e = left.0

-- what the end of a call changes none of
record EndsSo (s new : ClientState) : Type 0 where
  number : new.number ≡ s.number
  clock : new.clock ≡ s.clock
  calls : new.calls ≡ s.calls
  leaving : new.leaving ≡ s.leaving
  epoch : new.epoch ≡ s.epoch
  session : new.session ≡ s.session

ends_so : (s : ClientState) (target : Target) (result : CallResult) → EndsSo s (ended_plainly s target result)
ends_so s target (results.Opened handle) = record { number = refl; clock = refl; calls = refl; leaving = refl; epoch = refl; session = refl }
ends_so s target results.Closed = record { number = refl; clock = refl; calls = refl; leaving = refl; epoch = refl; session = refl }
ends_so s target _ = record { number = refl; clock = refl; calls = refl; leaving = refl; epoch = refl; session = refl }

-- ---- the cases

or_first : (a b : Bool) → a ≡ true → (a || b) ≡ true
or_first true b h = refl
or_first false b h = cc

or_second : (a b : Bool) → b ≡ true → (a || b) ≡ true
or_second true b h = refl
or_second false b h = h

some_request : {request other : Request} → Some request ≡ Some other → request ≡ other
some_request h = cc

module _ (w : WorldState) (number : ℕ) (member : WorldClient) (found : member_of w number ≡ Some member) where
  -- the moment that is noted
  abbrev then : ℕ
  then = noted_moment member.client member.clock

  -- nothing is sent, and the epoch stays
  stays : (client : ClientState) (printed : List Line) → IsCalm printed → client.number ≡ member.client.number → client.clock ≡ then → client.calls ≡ member.client.calls → client.leaving ≡ member.client.leaving → OfEpoch w.messages member.client client → IsOwn w (with_client w number member client) printed
  stays client printed quiet own notes calls leaving epoch = record {
    number = number;
    member = member;
    found = found;
    client = client;
    sent = None;
    is = refl;
    grown = sym (append-nil w.messages);
    quiet = quiet;
    own = own;
    notes = notes;
    sends = Nothing refl calls;
    keeps = λ was. leaving ∙ was;
    departs = λ call is. cc;
    epoch = epoch;
  }

  -- only the moment is noted
  notes_only : (printed : List Line) → IsCalm printed → IsOwn w (with_client w number member (note member.client then)) printed
  notes_only printed quiet =
      stays (note member.client then) printed quiet (note_number member.client member.client.session then) (note_clock member.client member.client.session then) (note_calls member.client member.client.session then) (note_leaving member.client member.client.session then)
      (SameEpoch (note_epoch member.client member.client.session then) (λ e. unstarted_before member.client member.client.session then (sym (note_session member.client then) ∙ e))
      (live_before member.client (note member.client then) (note_keeps member.client then).of_session.session))

  -- in a session that isn't given up
  in_session : IsLive member.client member.clock → (session_behind (standing_then member.client then) ≡ sessions.Unstarted → member.client.session ≡ sessions.Unstarted)
  in_session live e = sym (behind_live member.client member.clock live) ∙ e

  refused_quiet : (o : Option Outstanding) (handle : ℕ) → IsCalm (refused_lines member.client handle o)
  refused_quiet None handle = tt
  refused_quiet (Some call) handle =
      elim (is_on handle call.target) as (λ b. IsCalm (cond b (lines.Done member.client.number (request_number call.request) (answers.Refused faults.Poisoned) ∷ []) [])) [ true ↦ (tt, tt, tt) | false ↦ tt ]

  ask_comes : (ask : Ask) (c : AskCase member.client member.clock ask) → Comes (IsOwn w) (asked w number member (asked_in member.client member.clock ask c))
  ask_comes ask (AskedTooLate late) = tt
  ask_comes ask (Unsafe fault early is) = notes_only (with_refusal (note_lines member.client then) fault) (refusal_quiet (note_lines member.client then) fault (noted_quiet member.client then))
  ask_comes ask (Refused fault safe is) = stays (at_moment member.client then) (lines.Refused fault ∷ []) (tt, tt, tt) refl refl refl refl (SameEpoch refl (λ e. e) (λ e. e))
  ask_comes ask (ReadServed handle mine call entry given safe is readable) =
      stays (at_moment member.client then) (lines.Served member.client.number mine.name entry ∷ []) (tt, tt, tt) refl refl refl refl (SameEpoch refl (λ e. e) (λ e. e))
  ask_comes ask (AbsenceServed opening safe on is plain cached) =
      stays (at_moment member.client then) (lines.Served member.client.number opening.name None ∷ []) (tt, tt, tt) refl refl refl refl (SameEpoch refl (λ e. e) (λ e. e))
  ask_comes ask (Shared opening view handle safe is shared room) =
      stays (with_shared member.client then (kept_handle handle opening true))
      (lines.Served member.client.number opening.name (Some view) ∷ lines.Done member.client.number 0 (answers.Opened (member.client.opened + 1)) ∷ []) (tt, tt, (tt, tt, tt)) refl refl refl refl (SameEpoch refl (λ e. e) (λ e. e))
  ask_comes ask (OutOfHandles opening view handle safe is shared last) = tt
  ask_comes ask (Released handle mine safe is found shared) =
      stays (without_handle member.client then handle) (lines.Done member.client.number 0 answers.Closed ∷ []) (tt, tt, tt) refl refl refl refl (SameEpoch refl (λ e. e) (λ e. e))
  ask_comes ask (OutOfCalls call sequencer target sendable last) = tt
  ask_comes ask (Sent call sequencer target sendable room) =
      let message : CallMessage = record { client = member.client.number; epoch = member.client.epoch; number = member.client.calls + 1; call = call; sequencer = sequencer } in
      record {
        number = number;
        member = member;
        found = found;
        client = with_call member.client then call sequencer target;
        sent = Some (requests.Call message);
        is = refl;
        grown = refl;
        quiet = tt;
        own = refl;
        notes = refl;
        sends = NextCall message refl (record { client = refl; number = refl; epoch = refl }) refl;
        keeps = λ was. or_first member.client.leaving (is_leaving target) was;
        departs = λ other is leaves.
            let e : other ≡ message = cc in
            or_second member.client.leaving (is_leaving target) (sym sendable.ends ∙ subst (λ (c : CallMessage). is_leave c.call ≡ true) e leaves);
        epoch = SameEpoch refl (λ e. e) (λ e. e);
      }
  ask_comes ask (Poisoned handle mine safe is usable) =
      stays (with_poisoned member.client then handle mine) (poison_lines member.client handle)
      (append_calm (refused_lines member.client handle member.client.outstanding) (lines.Done member.client.number 0 answers.Poisoned ∷ []) (refused_quiet member.client.outstanding handle) (tt, tt, tt))
      refl refl refl refl (SameEpoch refl (λ e. e) (λ e. e))

  -- a Start or a Beat is sent
  sends_beat : (client : ClientState) (printed : List Line) (request : Request) → IsNoCall request → IsCalm printed → client.number ≡ member.client.number → client.clock ≡ then → client.calls ≡ member.client.calls → client.leaving ≡ member.client.leaving → OfEpoch w.messages member.client client → IsOwn w (record w { clients = stepped w.clients number member client; messages = w.messages ++ ToMaster request ∷ [] }) printed
  sends_beat client printed request none quiet own notes calls leaving epoch = record {
    number = number;
    member = member;
    found = found;
    client = client;
    sent = Some request;
    is = refl;
    grown = refl;
    quiet = quiet;
    own = own;
    notes = notes;
    sends = NoCall request refl none calls;
    keeps = λ was. leaving ∙ was;
    departs = λ call is. absurd (subst IsNoCall (some_request is) none);
    epoch = epoch;
  }

  beat_comes : (c : BeatCase member.client member.clock) → Comes (IsOwn w) (beaten w number member (beaten_in member.client member.clock c))
  beat_comes (BeatTooLate late) = tt
  beat_comes (OutOfBeats early last) = tt
  beat_comes (Starts early unstarted room) = sends_beat (with_beat member.client then) [] (start_message member.client) tt tt refl refl refl refl (SameEpoch refl (λ e. e) (λ e. e))
  beat_comes (Beats early live safe room) =
      sends_beat (with_beat (note_live member.client then) then) (note_lines member.client then) (beat_message member.client) tt (noted_quiet member.client then) refl refl refl refl
      (SameEpoch refl (in_session (record { live = live; then = safe })) (λ e. live))
  beat_comes (Quiet early started live) = notes_only (note_lines member.client then) (noted_quiet member.client then)

  -- the time is noted, and perhaps the message refused
  passed_comes : IsOwn w (with_client w number member (note member.client then)) (note_lines member.client then ++ [])
  passed_comes = notes_only (note_lines member.client then ++ []) (told_quiet member.client then [] tt)

  rejected_comes : (fault : Fault) → IsOwn w (with_client w number member (note member.client then)) (with_refusal (note_lines member.client then ++ []) fault)
  rejected_comes fault = notes_only (with_refusal (note_lines member.client then ++ []) fault) (refusal_quiet (note_lines member.client then ++ []) fault (told_quiet member.client then [] tt))

  -- a call ends
  ended_comes : IsLive member.client member.clock → (client : ClientState) → EndsSo (note_live member.client then) client → (printed : List Line) → IsCalm printed → IsOwn w (with_client w number member client) printed
  ended_comes live client so printed quiet =
      stays client printed quiet so.number so.clock so.calls so.leaving (SameEpoch so.epoch (λ e. in_session live (sym so.session ∙ e)) (λ e. live.live))

  give_comes : (at : ℕ) (out : Out) → out_at w.messages at ≡ Some out → (c : GiveCase member.client member.clock out) → Comes (IsOwn w) (gave w number member (given_in member.client member.clock out c))
  give_comes at out sent (GivenTooLate late) = tt
  give_comes at out sent (OfAnother early other) = passed_comes
  give_comes at out sent (Started message heard is standing fits) =
      stays (begun member.client then message) (note_lines member.client then ++ []) (told_quiet member.client then [] tt) refl refl refl refl
      (GrantedEpoch at message (subst (λ o. out_at w.messages at ≡ Some o) is sent) refl refl)
  give_comes at out sent (StartedUnfit message heard is standing long) = rejected_comes faults.ProtocolFault
  give_comes at out sent (StartedDropped message heard is old) = passed_comes
  give_comes at out sent (LeaseTaken message heard is fit taken) =
      let behind = with_processed (note_live member.client then) message in
      let events = event_lines member.client.number member.client.heard message.events in
      stays (bettered behind then (offered member.client message.span)) (note_lines member.client then ++ (events ++ safe_lines behind then message))
      (told_quiet member.client then (events ++ safe_lines behind then message) (append_calm events (safe_lines behind then message) (events_quiet member.client.number member.client.heard message.events) (safe_quiet behind then message))) refl refl refl refl (SameEpoch refl (in_session fit.alive.live) (λ e. fit.alive.live.live))
  give_comes at out sent (LeaseStays message heard is fit worse) =
      let events = event_lines member.client.number member.client.heard message.events in
      stays (with_processed (note_live member.client then) message) (note_lines member.client then ++ events) (told_quiet member.client then events (events_quiet member.client.number member.client.heard message.events)) refl refl refl refl (SameEpoch refl (in_session fit.alive.live) (λ e. fit.alive.live.live))
  give_comes at out sent (AliveUnfit message heard is alive unfit) = rejected_comes faults.ProtocolFault
  give_comes at out sent (AliveDropped message heard is strange) = passed_comes
  give_comes at out sent (OutOfNumbers message call heard is for last) = tt
  give_comes at out sent (Replied message call heard is for room kept plain) =
      ended_comes for.live (ended_plainly (note_live member.client then) call.target message.result) (ends_so (note_live member.client then) call.target message.result)
      (note_lines member.client then ++ lines.Done member.client.number message.number (answer_of member.client message.result) ∷ []) (told_quiet member.client then _ (tt, tt, tt))
  give_comes at out sent (Installed message call taught stamp heard is for learned) =
      stays (with_lesson member.client then taught) (note_lines member.client then ++ lines.Done member.client.number message.number (answer_of member.client message.result) ∷ [])
      (told_quiet member.client then _ (tt, tt, tt)) refl refl refl refl (SameEpoch refl (λ e. e) (λ e. e))
  give_comes at out sent (Departed message call heard is for leaving done) =
      stays (departed (note_live member.client then)) (note_lines member.client then ++ lines.Done member.client.number message.number answers.Okay ∷ []) (told_quiet member.client then _ (tt, tt, tt)) refl refl refl refl (SameEpoch refl (λ e. cc) (λ e. cc))
  give_comes at out sent (ReplyDropped message call heard is for dropped) =
      ended_comes for.live (record (note_live member.client then) { outstanding = None }) (record { number = refl; clock = refl; calls = refl; leaving = refl; epoch = refl; session = refl }) (note_lines member.client then ++ []) (told_quiet member.client then [] tt)
  give_comes at out sent (NotAwaited message heard is none) = passed_comes
  give_comes at out sent (Learns message present heard is later) =
      stays (learned (note_live member.client then) present) (note_lines member.client then ++ unknown_lines member.client.number member.client.outstanding)
      (told_quiet member.client then (unknown_lines member.client.number member.client.outstanding) (unknown_quiet member.client.number member.client.outstanding)) refl refl refl refl
      (LearnedEpoch at present message (subst (λ o. out_at w.messages at ≡ Some o) is sent) later.fault later.later refl (behind_live member.client member.clock later.live ∙ later.live.live))
  give_comes at out sent (Lost message heard is loss) =
      stays (lost (note_live member.client then) sessions.Lost) (note_lines member.client then ++ lines.Lost member.client.number ∷ []) (told_quiet member.client then _ (tt, tt, tt)) refl refl refl refl (SameEpoch refl (λ e. cc) (λ e. cc))
  give_comes at out sent (TurnedAway message heard is fault unstarted) =
      stays (lost (at_moment member.client then) sessions.TurnedAway) (note_lines member.client then ++ lines.Lost member.client.number ∷ []) (told_quiet member.client then _ (tt, tt, tt)) refl refl refl refl (SameEpoch refl (λ e. cc) (λ e. cc))
  give_comes at out sent (RefusalDropped message heard is earlier stays_so) = passed_comes

-- ---- the rows

pub asks_own : (old : WorldState) (step : Step) (new : WorldState) (printed : List Line) → IsAsk old step new printed → IsOwn old new printed
asks_own old step new printed a =
    it_comes (IsOwn old) (asked old a.number a.member (asked_in a.member.client a.member.clock a.ask a.case)) new printed a.is (ask_comes old a.number a.member a.found a.ask a.case)

pub beats_own : (old : WorldState) (step : Step) (new : WorldState) (printed : List Line) → IsBeat old step new printed → IsOwn old new printed
beats_own old step new printed b =
    it_comes (IsOwn old) (beaten old b.number b.member (beaten_in b.member.client b.member.clock b.case)) new printed b.is (beat_comes old b.number b.member b.found b.case)

pub gives_own : (old : WorldState) (step : Step) (new : WorldState) (printed : List Line) → IsGive old step new printed → IsOwn old new printed
gives_own old step new printed g =
    it_comes (IsOwn old) (gave old (out_client g.out) g.member (given_in g.member.client g.member.clock g.out g.case)) new printed g.is (give_comes old (out_client g.out) g.member g.found g.at g.out g.was_sent g.case)

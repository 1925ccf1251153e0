-- By which arm of its table a client does a step. Each law of the client is a match on these.
use Rattle.std.specs.Prelude.{◌≡◌, ◌≢◌, ◌⊎◌, ℕ, ◌+◌, ◌<◌, ◌≤◌, max, Bool, true, false, not, is_none, ◌&&◌, ◌||◌, List, [], ◌∷◌, ◌++◌, Option, Some, None, Result, Ok, Err}
use Rattle.lease_core.specs.Lease.{moment_limit}
use Rattle.cache_core.specs.Caches.{is_leased, takes_lease, answer}
use Rattle.cache_core.specs.Kept.{serving}
use Rattle.cache_core.specs.declared.standings.SessionTrust.TheVariants as standings
use Rattle.node_core.specs.Limits.{number_end}
use Rattle.node_core.specs.declared.refusals.Fault.{Fault}
use Rattle.node_core.specs.declared.refusals.Fault.TheVariants as faults
use Rattle.node_core.specs.declared.answers.Answer.{Answer}
use Rattle.node_core.specs.declared.answers.Answer.TheVariants as answers
use Rattle.node_core.specs.declared.lines.Line.TheVariants as lines
use Rattle.node_core.specs.declared.views.View.{View}
use Rattle.tags_cell.specs.declared.messages.calls.Call.{Call}
use Rattle.tags_cell.specs.declared.messages.calls.Open.{Open}
use Rattle.tags_cell.specs.declared.messages.outs.Out.{Out}
use Rattle.tags_cell.specs.declared.messages.outs.Out.TheVariants as outs
use Rattle.tags_cell.specs.declared.messages.outs.Started.{Started as StartedMessage}
use Rattle.tags_cell.specs.declared.messages.beats.Alive.{Alive as AliveMessage}
use Rattle.tags_cell.specs.declared.messages.outs.Reply.{Reply}
use Rattle.tags_cell.specs.declared.messages.outs.Refused.{Refused as RefusedMessage}
use Rattle.tags_cell.specs.declared.messages.outs.NewHandle.{NewHandle}
use Rattle.tags_cell.specs.declared.messages.outs.CallResult.TheVariants as results
use Rattle.tags_cell.specs.Messages.{request_number, out_client, is_leave}
use Rattle.client_core.specs.declared.parts.asks.Ask.{Ask}
use Rattle.client_core.specs.declared.parts.asks.Ask.TheVariants as asks
use Rattle.client_core.specs.declared.parts.asks.NodeCall.{NodeCall}
use Rattle.client_core.specs.declared.parts.asks.AskOutcome.{AskOutcome}
use Rattle.client_core.specs.declared.parts.asks.Outcome.TheVariants as outcomes
use Rattle.client_core.specs.declared.parts.handles.ClientHandle.{ClientHandle}
use Rattle.client_core.specs.declared.plans.AskPlan.TheVariants as plans
use Rattle.client_core.specs.declared.parts.sessions.ClientStanding.TheVariants as sessions
use Rattle.client_core.specs.declared.parts.steps.Given.{Given}
use Rattle.client_core.specs.declared.parts.steps.Beaten.{Beaten}
use Rattle.client_core.specs.declared.parts.targets.Target.{Target}
use Rattle.client_core.specs.declared.parts.targets.Target.TheVariants as targets
use Rattle.client_core.specs.declared.parts.targets.Outstanding.{Outstanding}
use Rattle.client_core.specs.State.{ClientState, at_moment, session_then, note, note_live, note_lines}
use Rattle.client_core.specs.Handles.{handle_of, has_number}
use Rattle.client_core.specs.Opens.{cached_answer, is_plain, only_reads, kept_handle, Lesson}
use Rattle.client_core.specs.Asks.{asks_to_leave, fault_for, plan_of, asked_for, message_of, with_call, with_shared, without_handle}
use Rattle.client_core.specs.Poisons.{with_poisoned, poison_lines}
use Rattle.client_core.specs.Beats.{start_message, beat_message, with_beat, beaten}
use Rattle.client_core.specs.Lessons.{lesson}
use Rattle.client_core.specs.Targets.{is_leaving, unknown_lines}
use Rattle.client_core.specs.Gives.{is_numbered, later_epoch, learned, told, passed_over, rejected, offered, begun, with_processed, bettered, safe_lines, awaited, answer_of, ended_plainly, with_lesson, lost, departed}
use Rattle.client_core.specs.Invalidations.{is_in_order}
use Rattle.client_core.specs.Events.{are_events_in_order, event_lines}
use Rattle.client_core.specs.Sessions.{session_after}

-- the moment that is noted
abbrev pub noted_moment : ClientState → ℕ → ℕ
noted_moment s now = max s.clock now

-- the client once it noted the moment
abbrev pub noted : ClientState → ℕ → ClientState
noted s now = note s (noted_moment s now)

-- ---- ask

-- it is in time, and the client may rely on its session: its lease runs
pub record IsSafe (s : ClientState) (now : ℕ) : Type 0 where
  pub early : now < moment_limit
  pub live : s.session ≡ sessions.Live
  pub safe : s.standing ≡ standings.Safe
  pub leased : is_leased s.cache.lease (noted_moment s now) ≡ true

-- no call is in the way of what is asked for: none is outstanding, or the session is to end, which wasn't asked for before
abbrev pub is_free : ClientState → Ask → Bool
is_free s ask = is_none s.outstanding || (asks_to_leave ask && not s.leaving)

-- this call may be sent under this sequencer or under none, and no other is in its way
pub record IsSendable (s : ClientState) (now : ℕ) (ask : Ask) (call : Call) (sequencer : Option (List ℕ)) (target : Target) : Type 0 where
  pub safe : IsSafe s now
  pub is_plan : plan_of s (noted_moment s now) ask ≡ Ok (plans.Send call sequencer target)
  pub free : is_free s ask ≡ true
  -- the call that ends the session is asked for as that
  pub leaves : is_leaving target ≡ asks_to_leave ask
  pub ends : is_leave call ≡ is_leaving target

-- an open handle that isn't poisoned
pub record IsUsable (s : ClientState) (number : ℕ) (handle : ClientHandle) : Type 0 where
  pub found : handle_of s.handles number ≡ Some handle
  pub usable : handle.poisoned ≡ false

-- a handle to read without a sequencer, and what is cached under its name, by which this is answered to the call
pub record IsReadable (s : ClientState) (now : ℕ) (number : ℕ) (handle : ClientHandle) (call : NodeCall) (entry : Option View) (given : Answer) : Type 0 where
  pub stays : s.leaving ≡ false
  pub of_handle : IsUsable s number handle
  pub reads : handle.mode.read ≡ true
  pub unsequenced : handle.sequencer ≡ None
  pub cached : answer s.cache (noted_moment s now) handle.name ≡ Some entry
  pub answers : cached_answer handle call entry ≡ Some given

-- an Open to read alone without a lock-delay, the view that is cached under its name, and the handle that is kept on that instance
pub record IsShared (s : ClientState) (now : ℕ) (opening : Open) (view : View) (handle : NewHandle) : Type 0 where
  pub stays : s.leaving ≡ false
  pub plain : is_plain opening ≡ true
  pub reads : only_reads opening ≡ true
  pub cached : answer s.cache (noted_moment s now) opening.name ≡ Some (Some view)
  pub kept : serving s.kept opening.name view.node.instance ≡ Some handle

pub data AskCase (s : ClientState) (now : ℕ) (ask : Ask) : Type 0 where
  -- THE MOMENT IS PAST THE END
  AskedTooLate : moment_limit ≤ now → AskCase s now ask
  -- NO SESSION, ONE THAT THE CLIENT MAY NOT RELY ON, OR ONE THAT IT ENDS
  Unsafe : (fault : Fault) → now < moment_limit → fault_for s (noted_moment s now) ask ≡ Some fault → AskCase s now ask
  -- THE CLIENT REFUSES IT BY ITSELF
  Refused : (fault : Fault) → IsSafe s now → plan_of s (noted_moment s now) ask ≡ Err fault → AskCase s now ask
  -- THE CACHE ANSWERS
  ReadServed : (number : ℕ) (handle : ClientHandle) (call : NodeCall) (entry : Option View) (given : Answer) → IsSafe s now → ask ≡ asks.Node number call → IsReadable s now number handle call entry given → AskCase s now ask
  AbsenceServed : (opening : Open) → IsSafe s now → s.leaving ≡ false → ask ≡ asks.Open opening → is_plain opening ≡ true → answer s.cache (noted_moment s now) opening.name ≡ Some None → AskCase s now ask
  Shared : (opening : Open) (view : View) (handle : NewHandle) → IsSafe s now → ask ≡ asks.Open opening → IsShared s now opening view handle → s.opened + 1 < number_end → AskCase s now ask
  OutOfHandles : (opening : Open) (view : View) (handle : NewHandle) → IsSafe s now → ask ≡ asks.Open opening → IsShared s now opening view handle → number_end ≤ s.opened + 1 → AskCase s now ask
  -- A SHARED HANDLE IS CLOSED
  Released : (number : ℕ) (handle : ClientHandle) → IsSafe s now → ask ≡ asks.Close number → handle_of s.handles number ≡ Some handle → handle.shared ≡ true → AskCase s now ask
  -- A CALL
  OutOfCalls : (call : Call) (sequencer : Option (List ℕ)) (target : Target) → IsSendable s now ask call sequencer target → number_end ≤ s.calls + 1 → AskCase s now ask
  Sent : (call : Call) (sequencer : Option (List ℕ)) (target : Target) → IsSendable s now ask call sequencer target → s.calls + 1 < number_end → AskCase s now ask
  -- A POISON
  Poisoned : (number : ℕ) (handle : ClientHandle) → IsSafe s now → ask ≡ asks.Poison number → IsUsable s number handle → AskCase s now ask

-- what the client is then, and answers
abbrev pub asked_in : (s : ClientState) (now : ℕ) (ask : Ask) → AskCase s now ask → ClientState × Result AskOutcome Fault
asked_in s now ask (AskedTooLate late) = (s, Err faults.Exhausted)
asked_in s now ask (Unsafe fault early is) = (noted s now, Ok (asked_for (note_lines s (noted_moment s now)) (outcomes.Refused fault)))
asked_in s now ask (Refused fault safe is) = (at_moment s (noted_moment s now), Ok (asked_for [] (outcomes.Refused fault)))
asked_in s now ask (ReadServed number handle call entry given safe is readable) =
    (at_moment s (noted_moment s now), Ok (asked_for (lines.Served s.number handle.name entry ∷ []) (outcomes.Served given)))
asked_in s now ask (AbsenceServed opening safe stays is plain cached) =
    (at_moment s (noted_moment s now), Ok (asked_for (lines.Served s.number opening.name None ∷ []) (outcomes.Served (answers.Refused faults.NotFound))))
asked_in s now ask (Shared opening view handle safe is shared room) =
    (with_shared s (noted_moment s now) (kept_handle handle opening true), Ok (asked_for (lines.Served s.number opening.name (Some view) ∷ lines.Done s.number 0 (answers.Opened (s.opened + 1)) ∷ []) (outcomes.Served (answers.Opened (s.opened + 1)))))
asked_in s now ask (OutOfHandles opening view handle safe is shared last) = (s, Err faults.Exhausted)
asked_in s now ask (Released number handle safe is found shared) =
    (without_handle s (noted_moment s now) number, Ok (asked_for (lines.Done s.number 0 answers.Closed ∷ []) outcomes.Answered))
asked_in s now ask (OutOfCalls call sequencer target sendable last) = (s, Err faults.Exhausted)
asked_in s now ask (Sent call sequencer target sendable room) = (with_call s (noted_moment s now) call sequencer target, Ok (asked_for [] (outcomes.Sent (message_of s call sequencer))))
asked_in s now ask (Poisoned number handle safe is usable) =
    (with_poisoned s (noted_moment s now) number handle, Ok (asked_for (poison_lines s number) outcomes.Answered))

-- ---- beat

pub data BeatCase (s : ClientState) (now : ℕ) : Type 0 where
  BeatTooLate : moment_limit ≤ now → BeatCase s now
  -- after the last number
  OutOfBeats : now < moment_limit → number_end ≤ s.beats + 1 → BeatCase s now
  Starts : now < moment_limit → s.session ≡ sessions.Unstarted → s.beats + 1 < number_end → BeatCase s now
  -- in a session that isn't given up
  Beats : now < moment_limit → s.session ≡ sessions.Live → session_then s (noted_moment s now) ≡ sessions.Live → s.beats + 1 < number_end → BeatCase s now
  -- NOTHING IS SENT
  Quiet : now < moment_limit → session_then s (noted_moment s now) ≢ sessions.Unstarted → session_then s (noted_moment s now) ≢ sessions.Live → BeatCase s now

-- what the client is then, and sends
abbrev pub beaten_in : (s : ClientState) (now : ℕ) → BeatCase s now → ClientState × Result Beaten Fault
beaten_in s now (BeatTooLate late) = (s, Err faults.Exhausted)
beaten_in s now (OutOfBeats early last) = (s, Err faults.Exhausted)
beaten_in s now (Starts early unstarted room) = (with_beat s (noted_moment s now), Ok (beaten [] (Some (start_message s))))
beaten_in s now (Beats early live then room) =
    (with_beat (note_live s (noted_moment s now)) (noted_moment s now), Ok (beaten (note_lines s (noted_moment s now)) (Some (beat_message s))))
beaten_in s now (Quiet early started live) = (noted s now, Ok (beaten (note_lines s (noted_moment s now)) None))

-- ---- give

-- the message comes in time, and is for this client
pub record IsHeard (s : ClientState) (now : ℕ) (out : Out) : Type 0 where
  pub early : now < moment_limit
  pub own : out_client out ≡ s.number

-- in a session, which isn't given up
pub record IsLive (s : ClientState) (now : ℕ) : Type 0 where
  pub live : s.session ≡ sessions.Live
  pub then : session_then s (noted_moment s now) ≡ sessions.Live

-- the answer to the newest Start of a client without a session
pub record IsStarted (s : ClientState) (message : StartedMessage) : Type 0 where
  pub unstarted : s.session ≡ sessions.Unstarted
  pub newest : message.number ≡ s.beats

-- of the client's epoch, in its session
pub record IsAlive (s : ClientState) (now : ℕ) (message : AliveMessage) : Type 0 where
  pub live : IsLive s now
  pub epoch : message.epoch ≡ s.epoch

-- and one that a master sends
pub record IsFit (s : ClientState) (now : ℕ) (message : AliveMessage) : Type 0 where
  pub alive : IsAlive s now message
  pub fits : message.span < moment_limit
  pub in_order : is_in_order s.processed message.invalidations ≡ true
  pub events_in_order : are_events_in_order s.heard message.events ≡ true

-- an offer for the newest Beat, better than the lease that there is
pub record IsTaken (s : ClientState) (message : AliveMessage) : Type 0 where
  pub newest : message.number ≡ s.beats
  pub better : takes_lease s.cache.lease (offered s message.span) ≡ true

-- a reply in the client's session and of its epoch, to its outstanding call
pub record IsAwaited (s : ClientState) (now : ℕ) (message : Reply) (call : Outstanding) : Type 0 where
  pub live : IsLive s now
  pub epoch : message.epoch ≡ s.epoch
  pub outstanding : s.outstanding ≡ Some call
  pub number : message.number ≡ request_number call.request

-- what a reply teaches of a name, under a lease that runs, where no invalidation was processed since
pub record IsLearned (s : ClientState) (now : ℕ) (message : Reply) (call : Outstanding) (taught : Lesson) (stamp : ℕ) : Type 0 where
  pub teaches : lesson s (noted_moment s now) message call.target ≡ Some taught
  pub safe : IsSafe s now
  pub enabled : s.cache.enabled ≡ true
  pub stamped : message.stamp ≡ Some stamp
  pub fresh : s.processed ≤ stamp

-- the master knows no session of the client, and is of no earlier epoch than the client's
pub record IsLoss (s : ClientState) (now : ℕ) (message : RefusedMessage) : Type 0 where
  pub fault : message.fault ≡ faults.NoSession
  pub live : IsLive s now
  pub epoch : s.epoch ≤ message.epoch

-- the master is of a later epoch than the client's, and the refusal that says so of no earlier one
pub record IsLater (s : ClientState) (now : ℕ) (message : RefusedMessage) (present : ℕ) : Type 0 where
  pub fault : message.fault ≡ faults.OldEpoch present
  pub live : IsLive s now
  pub epoch : s.epoch ≤ message.epoch
  pub later : s.epoch < present

pub data GiveCase (s : ClientState) (now : ℕ) (out : Out) : Type 0 where
  GivenTooLate : moment_limit ≤ now → GiveCase s now out
  OfAnother : now < moment_limit → out_client out ≢ s.number → GiveCase s now out
  -- A STARTED
  Started : (message : StartedMessage) → IsHeard s now out → out ≡ outs.Started message → IsStarted s message → message.span < moment_limit → GiveCase s now out
  StartedUnfit : (message : StartedMessage) → IsHeard s now out → out ≡ outs.Started message → IsStarted s message → moment_limit ≤ message.span → GiveCase s now out
  StartedDropped : (message : StartedMessage) → IsHeard s now out → out ≡ outs.Started message → (s.session ≡ sessions.Unstarted → message.number ≢ s.beats) → GiveCase s now out
  -- AN ALIVE
  LeaseTaken : (message : AliveMessage) → IsHeard s now out → out ≡ outs.Alive message → IsFit s now message → IsTaken s message → GiveCase s now out
  LeaseStays : (message : AliveMessage) → IsHeard s now out → out ≡ outs.Alive message → IsFit s now message → (message.number ≡ s.beats → takes_lease s.cache.lease (offered s message.span) ≡ false) → GiveCase s now out
  AliveUnfit : (message : AliveMessage) → IsHeard s now out → out ≡ outs.Alive message → IsAlive s now message → (moment_limit ≤ message.span) ⊎ (is_numbered s message ≡ false) → GiveCase s now out
  AliveDropped : (message : AliveMessage) → IsHeard s now out → out ≡ outs.Alive message → (session_then s (noted_moment s now) ≡ sessions.Live → message.epoch ≢ s.epoch) → GiveCase s now out
  -- A REPLY
  OutOfNumbers : (message : Reply) (call : Outstanding) → IsHeard s now out → out ≡ outs.Reply message → IsAwaited s now message call → has_number s.opened message.result ≡ false → GiveCase s now out
  -- the cache stays
  Replied : (message : Reply) (call : Outstanding) → IsHeard s now out → out ≡ outs.Reply message → IsAwaited s now message call → has_number s.opened message.result ≡ true → call.target ≢ targets.Dropped → lesson s (noted_moment s now) message call.target ≡ None → GiveCase s now out
  -- an entry is installed
  Installed : (message : Reply) (call : Outstanding) (taught : Lesson) (stamp : ℕ) → IsHeard s now out → out ≡ outs.Reply message → IsAwaited s now message call → IsLearned s now message call taught stamp → GiveCase s now out
  -- the client has ended its session
  Departed : (message : Reply) (call : Outstanding) → IsHeard s now out → out ≡ outs.Reply message → IsAwaited s now message call → call.target ≡ targets.Leaving → message.result ≡ results.Done → GiveCase s now out
  ReplyDropped : (message : Reply) (call : Outstanding) → IsHeard s now out → out ≡ outs.Reply message → IsAwaited s now message call → call.target ≡ targets.Dropped → GiveCase s now out
  NotAwaited : (message : Reply) → IsHeard s now out → out ≡ outs.Reply message → awaited s (noted_moment s now) message ≡ None → GiveCase s now out
  -- A REFUSAL
  Learns : (message : RefusedMessage) (present : ℕ) → IsHeard s now out → out ≡ outs.Refused message → IsLater s now message present → GiveCase s now out
  Lost : (message : RefusedMessage) → IsHeard s now out → out ≡ outs.Refused message → IsLoss s now message → GiveCase s now out
  TurnedAway : (message : RefusedMessage) → IsHeard s now out → out ≡ outs.Refused message → message.fault ≡ faults.NoSession → s.session ≡ sessions.Unstarted → GiveCase s now out
  RefusalDropped : (message : RefusedMessage) → IsHeard s now out → out ≡ outs.Refused message → later_epoch s (noted_moment s now) message.epoch message.fault ≡ None → session_after (session_then s (noted_moment s now)) s.epoch message.epoch message.fault ≡ None → GiveCase s now out

-- what the client is then, and prints
abbrev pub given_in : (s : ClientState) (now : ℕ) (out : Out) → GiveCase s now out → ClientState × Result Given Fault
given_in s now out (GivenTooLate late) = (s, Err faults.Exhausted)
given_in s now out (OfAnother early other) = passed_over s (noted_moment s now)
given_in s now out (Started message heard is standing fits) = (begun s (noted_moment s now) message, Ok (told s (noted_moment s now) [] None))
given_in s now out (StartedUnfit message heard is standing long) = rejected s (noted_moment s now)
given_in s now out (StartedDropped message heard is old) = passed_over s (noted_moment s now)
given_in s now out (LeaseTaken message heard is fit taken) =
    (bettered (with_processed (note_live s (noted_moment s now)) message) (noted_moment s now) (offered s message.span), Ok (told s (noted_moment s now) (event_lines s.number s.heard message.events ++ safe_lines (with_processed (note_live s (noted_moment s now)) message) (noted_moment s now) message) None))
given_in s now out (LeaseStays message heard is fit worse) =
    (with_processed (note_live s (noted_moment s now)) message, Ok (told s (noted_moment s now) (event_lines s.number s.heard message.events) None))
given_in s now out (AliveUnfit message heard is alive unfit) = rejected s (noted_moment s now)
given_in s now out (AliveDropped message heard is other) = passed_over s (noted_moment s now)
given_in s now out (OutOfNumbers message call heard is for last) = (s, Err faults.Exhausted)
given_in s now out (Replied message call heard is for room kept plain) =
    (ended_plainly (note_live s (noted_moment s now)) call.target message.result, Ok (told s (noted_moment s now) (lines.Done s.number message.number (answer_of s message.result) ∷ []) None))
given_in s now out (Installed message call taught stamp heard is for learned) =
    (with_lesson s (noted_moment s now) taught, Ok (told s (noted_moment s now) (lines.Done s.number message.number (answer_of s message.result) ∷ []) None))
given_in s now out (Departed message call heard is for leaving done) =
    (departed (note_live s (noted_moment s now)), Ok (told s (noted_moment s now) (lines.Done s.number message.number answers.Okay ∷ []) None))
given_in s now out (ReplyDropped message call heard is for dropped) = (record (note_live s (noted_moment s now)) { outstanding = None }, Ok (told s (noted_moment s now) [] None))
given_in s now out (NotAwaited message heard is none) = passed_over s (noted_moment s now)
given_in s now out (Learns message present heard is later) =
    (learned (note_live s (noted_moment s now)) present, Ok (told s (noted_moment s now) (unknown_lines s.number s.outstanding) None))
given_in s now out (Lost message heard is loss) = (lost (note_live s (noted_moment s now)) sessions.Lost, Ok (told s (noted_moment s now) (lines.Lost s.number ∷ []) None))
given_in s now out (TurnedAway message heard is fault unstarted) = (lost (at_moment s (noted_moment s now)) sessions.TurnedAway, Ok (told s (noted_moment s now) (lines.Lost s.number ∷ []) None))
given_in s now out (RefusalDropped message heard is earlier stays) = passed_over s (noted_moment s now)

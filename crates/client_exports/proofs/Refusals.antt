-- Which refusals a client's step ends with.
use Rattle.std.proofs.Common.{◌≡◌, ℕ, Bool, true, false, cond, List, Option, Some, None, Result, Ok, Err, sym, ◌∙◌, subst}
use Rattle.std.specs.Prelude.{is_some}
use Rattle.cache_core.specs.declared.standings.SessionTrust.{SessionTrust}
use Rattle.cache_core.specs.declared.standings.SessionTrust.TheVariants as standings
use Rattle.node_core.specs.declared.refusals.Fault.{Fault}
use Rattle.node_core.specs.declared.refusals.Fault.TheVariants as faults
use Rattle.node_core.specs.declared.answers.Answer.{Answer}
use Rattle.node_core.specs.declared.answers.Answer.TheVariants as answers
use Rattle.tags_cell.specs.declared.messages.calls.Call.{Call}
use Rattle.tags_cell.specs.declared.messages.calls.Call.TheVariants as calls
use Rattle.tags_cell.specs.declared.messages.outs.Out.{Out}
use Rattle.client_core.specs.declared.parts.asks.Ask.{Ask}
use Rattle.client_core.specs.declared.parts.asks.Ask.TheVariants as asks
use Rattle.client_core.specs.declared.parts.asks.AskOutcome.{AskOutcome}
use Rattle.client_core.specs.declared.parts.asks.NodeCall.{NodeCall}
use Rattle.client_core.specs.declared.parts.asks.Outcome.{Outcome}
use Rattle.client_core.specs.declared.parts.asks.Outcome.TheVariants as outcomes
use Rattle.client_core.specs.declared.parts.handles.ClientHandle.{ClientHandle}
use Rattle.client_core.specs.declared.parts.sessions.ClientStanding.{ClientStanding}
use Rattle.client_core.specs.declared.parts.sessions.ClientStanding.TheVariants as sessions
use Rattle.client_core.specs.declared.parts.steps.Given.{Given}
use Rattle.client_core.specs.declared.parts.targets.Target.{Target}
use Rattle.client_core.specs.declared.parts.targets.Target.TheVariants as targets
use Rattle.client_core.specs.Calls.{call_on}
use Rattle.client_core.specs.Handles.{handle_of, usable_handle}
use Rattle.client_core.specs.Sessions.{session_fault}
use Rattle.client_core.specs.declared.plans.AskPlan.{AskPlan}
use Rattle.client_core.specs.declared.plans.AskPlan.TheVariants as plans
use Rattle.client_core.specs.State.{ClientState, standing_then}
use Rattle.client_core.specs.Serves.{open_served, read_served}
use Rattle.client_core.specs.Asks.{fault_then, has_given_up, send_plan, may_leave, served_or, close_plan, poison_plan, node_plan, sequencer_plan, plan_of, ask_step}
use Rattle.client_core.specs.Gives.{give_step}
use Rattle.client_core.specs.Cases.{noted_moment, AskCase, asked_in, GiveCase, given_in}
use Rattle.client_core.specs.Cases.AskCase.{AskedTooLate, Unsafe, Refused, ReadServed, AbsenceServed, Shared, OutOfHandles, Released, OutOfCalls, Sent, Poisoned}
use Rattle.client_core.specs.Cases.GiveCase.{GivenTooLate, OfAnother, Started, StartedUnfit, StartedDropped, LeaseTaken, LeaseStays, AliveUnfit, AliveDropped, OutOfNumbers, Replied, Installed, Departed, ReplyDropped, NotAwaited, Learns, Lost, TurnedAway, RefusalDropped}
use Rattle.client_core.proofs.AskCases.{ask_case}
use Rattle.client_core.proofs.Cached.{cached_is}
use Rattle.client_core.proofs.GiveCases.{give_case}
use Rattle.client_exports.specs.Steps.{IsOwn}

-- a result's refusal, if it is one
abbrev OwnErr : {X : Type 0} → Result X Fault → Type 0
OwnErr (Ok x) = Unit {0}
OwnErr (Err fault) = IsOwn fault

abbrev pub OwnSome : Option Fault → Type 0
OwnSome None = Unit {0}
OwnSome (Some fault) = IsOwn fault

abbrev pub OwnAnswer : Answer → Type 0
OwnAnswer (answers.Opened handle) = Unit {0}
OwnAnswer answers.Closed = Unit {0}
OwnAnswer answers.Poisoned = Unit {0}
OwnAnswer (answers.Viewed view) = Unit {0}
OwnAnswer (answers.Stated stat) = Unit {0}
OwnAnswer (answers.Names names) = Unit {0}
OwnAnswer (answers.Sequencer bytes) = Unit {0}
OwnAnswer answers.Okay = Unit {0}
OwnAnswer (answers.Refused fault) = IsOwn fault

abbrev pub OwnOutcome : Outcome → Type 0
OwnOutcome (outcomes.Sent message) = Unit {0}
OwnOutcome (outcomes.Served answer) = OwnAnswer answer
OwnOutcome outcomes.Answered = Unit {0}
OwnOutcome (outcomes.Refused fault) = IsOwn fault

-- ---- plans

poisoned_own : IsOwn faults.Poisoned
poisoned_own = record { no_want = λ e. cc; no_end = λ e. cc }

bad_own : IsOwn faults.BadHandle
bad_own = record { no_want = λ e. cc; no_end = λ e. cc }

outstanding_own : IsOwn faults.CallOutstanding
outstanding_own = record { no_want = λ e. cc; no_end = λ e. cc }

stale_own : IsOwn faults.StaleInstance
stale_own = record { no_want = λ e. cc; no_end = λ e. cc }

refused_if : {X : Type 0} (b : Bool) (x : X) (fault : Fault) → IsOwn fault → OwnErr {X = X} (cond b (Err fault) (Ok x))
refused_if true x fault own = own
refused_if false x fault own = tt

done_if : {X : Type 0} (b : Bool) (x : X) (fault : Fault) → IsOwn fault → OwnErr {X = X} (cond b (Ok x) (Err fault))
done_if true x fault own = tt
done_if false x fault own = own

sent_own : (s : ClientState) (call : Call) (sequencer : Option (List ℕ)) (target : Target) → OwnErr (send_plan s call sequencer target)
sent_own s call sequencer target = refused_if (is_some s.outstanding) (plans.Send call sequencer target) faults.CallOutstanding outstanding_own

served_own : (served : Option AskPlan) (sent : Result AskPlan Fault) → OwnErr sent → OwnErr (served_or served sent)
served_own None sent own = own
served_own (Some plan) sent own = tt

usable_own : (handle : Option ClientHandle) → OwnErr (usable_handle handle)
usable_own None = bad_own
usable_own (Some handle) = refused_if handle.poisoned handle faults.Poisoned poisoned_own

shared_own : (b : Bool) (plan : AskPlan) (sent : Result AskPlan Fault) → OwnErr sent → OwnErr (cond b (Ok plan) sent)
shared_own true plan sent own = tt
shared_own false plan sent own = own

close_own : (s : ClientState) (number : ℕ) (handle : Option ClientHandle) → OwnErr (close_plan s number handle)
close_own s number None = bad_own
close_own s number (Some handle) = shared_own handle.shared (plans.Release number) (send_plan s (calls.Close handle.bytes) None (targets.Closing number)) (sent_own s (calls.Close handle.bytes) None (targets.Closing number))

poison_own : (number : ℕ) (handle : Result ClientHandle Fault) → OwnErr handle → OwnErr (poison_plan number handle)
poison_own number (Ok handle) own = tt
poison_own number (Err fault) own = own

node_own : (s : ClientState) (moment number : ℕ) (call : NodeCall) (handle : Result ClientHandle Fault) → OwnErr handle → OwnErr (node_plan s moment number call handle)
node_own s moment number call (Ok handle) own =
    served_own (read_served s moment handle call) (send_plan s (call_on handle.bytes call) handle.sequencer (targets.Handle number)) (sent_own s (call_on handle.bytes call) handle.sequencer (targets.Handle number))
node_own s moment number call (Err fault) own = own

sequencer_own : (s : ClientState) (number : ℕ) (sequencer : List ℕ) (handle : Result ClientHandle Fault) → OwnErr handle → OwnErr (sequencer_plan s number sequencer handle)
sequencer_own s number sequencer (Ok handle) own = sent_own s (calls.SetSequencer handle.bytes) (Some sequencer) (targets.Sequencing number)
sequencer_own s number sequencer (Err fault) own = own

plan_own : (s : ClientState) (moment : ℕ) (ask : Ask) → OwnErr (plan_of s moment ask)
plan_own s moment (asks.Open opening) =
    served_own (open_served s moment opening) (send_plan s (calls.Open opening) None targets.NewHandle) (sent_own s (calls.Open opening) None targets.NewHandle)
plan_own s moment (asks.Close number) = close_own s number (handle_of s.handles number)
plan_own s moment (asks.Poison number) = poison_own number (usable_handle (handle_of s.handles number)) (usable_own (handle_of s.handles number))
plan_own s moment (asks.Node number call) = node_own s moment number call (usable_handle (handle_of s.handles number)) (usable_own (handle_of s.handles number))
plan_own s moment (asks.SetSequencer number sequencer) =
    sequencer_own s number sequencer (usable_handle (handle_of s.handles number)) (usable_own (handle_of s.handles number))
plan_own s moment (asks.CheckSequencer bytes) = sent_own s (calls.CheckSequencer bytes) None targets.Checking
plan_own s moment asks.Leave = done_if (may_leave s) (plans.Send calls.Leave None targets.Leaving) faults.CallOutstanding outstanding_own

-- ---- an ask

standing_own : (standing : SessionTrust) → OwnSome (session_fault sessions.Live standing)
standing_own standings.Safe = tt
standing_own (standings.Jeopardy since) = record { no_want = λ e. cc; no_end = λ e. cc }
standing_own standings.Lost = record { no_want = λ e. cc; no_end = λ e. cc }

session_own : (session : ClientStanding) (standing : SessionTrust) → OwnSome (session_fault session standing)
session_own sessions.Unstarted standing = record { no_want = λ e. cc; no_end = λ e. cc }
session_own sessions.Live standing = standing_own standing
session_own sessions.Lost standing = record { no_want = λ e. cc; no_end = λ e. cc }
session_own sessions.TurnedAway standing = record { no_want = λ e. cc; no_end = λ e. cc }

-- also where the client has asked for the end of its session
given_up_own : (b : Bool) (o : Option Fault) → OwnSome o → OwnSome (cond b (Some faults.NoSession) o)
given_up_own true o h = record { no_want = λ e. cc; no_end = λ e. cc }
given_up_own false o h = h

-- the refusal by which an answered ask ends
abbrev OwnAsked : ClientState × Result AskOutcome Fault → Type 0
OwnAsked (new, Ok asked) = OwnOutcome asked.outcome
OwnAsked (new, Err fault) = Unit {0}

asked_own : (s : ClientState) (now : ℕ) (ask : Ask) (c : AskCase s now ask) → OwnAsked (asked_in s now ask c)
asked_own s now ask (AskedTooLate late) = tt
asked_own s now ask (Unsafe fault early is) =
    let moment = noted_moment s now in
    subst OwnSome is (given_up_own (has_given_up s moment ask) (fault_then s moment) (session_own s.session (standing_then s moment)))
asked_own s now ask (Refused fault safe is) = subst OwnErr is (plan_own s (noted_moment s now) ask)
asked_own s now ask (ReadServed number handle call entry given safe is readable) = cached_is OwnAnswer (λ view. tt) (λ names. tt) stale_own handle call entry given readable.answers
asked_own s now ask (AbsenceServed opening safe stays is plain cached) = record { no_want = λ e. cc; no_end = λ e. cc }
asked_own s now ask (Shared opening view handle safe is shared room) = tt
asked_own s now ask (OutOfHandles opening view handle safe is shared last) = tt
asked_own s now ask (Released number handle safe is found shared) = tt
asked_own s now ask (OutOfCalls call sequencer target sendable last) = tt
asked_own s now ask (Sent call sequencer target sendable room) = tt
asked_own s now ask (Poisoned number handle safe is usable) = tt

pub ask_own : (s new : ClientState) (now : ℕ) (ask : Ask) (asked : AskOutcome) → ask_step s now ask ≡ (new, Ok asked) → OwnOutcome asked.outcome
ask_own s new now ask asked e = let c = ask_case s now ask in subst OwnAsked (sym c.1 ∙ e) (asked_own s now ask c.0)

-- ---- a give

abbrev OwnGiven : ClientState × Result Given Fault → Type 0
OwnGiven (new, Ok given) = OwnSome given.refused
OwnGiven (new, Err fault) = Unit {0}

protocol_own : IsOwn faults.ProtocolFault
protocol_own = record { no_want = λ e. cc; no_end = λ e. cc }

given_own : (s : ClientState) (now : ℕ) (out : Out) (c : GiveCase s now out) → OwnGiven (given_in s now out c)
given_own s now out (GivenTooLate late) = tt
given_own s now out (OfAnother early strange) = tt
given_own s now out (Started message heard is standing fits) = tt
given_own s now out (StartedUnfit message heard is standing long) = protocol_own
given_own s now out (StartedDropped message heard is old) = tt
given_own s now out (LeaseTaken message heard is fit taken) = tt
given_own s now out (LeaseStays message heard is fit worse) = tt
given_own s now out (AliveUnfit message heard is alive unfit) = protocol_own
given_own s now out (AliveDropped message heard is strange) = tt
given_own s now out (OutOfNumbers message call heard is for last) = tt
given_own s now out (Replied message call heard is for room kept plain) = tt
given_own s now out (Installed message call taught stamp heard is for learned) = tt
given_own s now out (Departed message call heard is for leaving done) = tt
given_own s now out (ReplyDropped message call heard is for dropped) = tt
given_own s now out (NotAwaited message heard is none) = tt
given_own s now out (Learns message present heard is later) = tt
given_own s now out (Lost message heard is loss) = tt
given_own s now out (TurnedAway message heard is fault unstarted) = tt
given_own s now out (RefusalDropped message heard is earlier stays) = tt

pub give_own : (s new : ClientState) (now : ℕ) (out : Out) (given : Given) → give_step s now out ≡ (new, Ok given) → OwnSome given.refused
give_own s new now out given e = let c = give_case s now out in subst OwnGiven (sym c.1 ∙ e) (given_own s now out c.0)

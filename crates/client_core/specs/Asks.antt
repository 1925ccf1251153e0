-- A client is asked for a call.
use Rattle.std.specs.Prelude.{ℕ, ◌+◌, nat_lt, Bool, true, false, not, ◌&&◌, ◌||◌, List, [], ◌∷◌, Option, Some, None, Result, Ok, Err, if◌then◌else◌, is_some, is_none}
use Rattle.std.specs.Map.{remove_entry}
use Rattle.std.specs.BTreeMap.{is_at, insert_entry}
use Rattle.std.specs.Ordering.{nat_cmp}
use Rattle.node_core.specs.Limits.{number_end}
use Rattle.node_core.specs.declared.refusals.Fault.{Fault}
use Rattle.node_core.specs.declared.refusals.Fault.TheVariants as faults
use Rattle.node_core.specs.declared.answers.Answer.TheVariants as answers
use Rattle.node_core.specs.declared.lines.Line.{Line}
use Rattle.node_core.specs.declared.lines.Line.TheVariants as lines
use Rattle.tags_cell.specs.declared.messages.calls.Call.{Call}
use Rattle.tags_cell.specs.declared.messages.calls.Call.TheVariants as calls
use Rattle.tags_cell.specs.declared.messages.calls.Open.{Open}
use Rattle.tags_cell.specs.declared.messages.requests.Request.{Request}
use Rattle.tags_cell.specs.declared.messages.requests.Request.TheVariants as requests
use Rattle.client_core.specs.declared.parts.asks.Ask.{Ask}
use Rattle.client_core.specs.declared.parts.asks.Ask.TheVariants as asks
use Rattle.client_core.specs.declared.parts.asks.NodeCall.{NodeCall}
use Rattle.client_core.specs.declared.parts.asks.AskOutcome.{AskOutcome}
use Rattle.client_core.specs.declared.parts.asks.Outcome.{Outcome}
use Rattle.client_core.specs.declared.parts.asks.Outcome.TheVariants.{Sent, Served, Answered, Refused}
use Rattle.client_core.specs.declared.parts.handles.ClientHandle.{ClientHandle}
use Rattle.client_core.specs.declared.parts.targets.Target.{Target}
use Rattle.client_core.specs.declared.parts.targets.Target.TheVariants as targets
use Rattle.client_core.specs.Calls.{call_on}
use Rattle.client_core.specs.Sessions.{session_fault}
use Rattle.client_core.specs.declared.plans.AskPlan.{AskPlan}
use Rattle.client_core.specs.declared.plans.AskPlan.TheVariants as plans
use Rattle.client_core.specs.Moments.{moment}
use Rattle.client_core.specs.Leased.{shut_if}
use Rattle.client_core.specs.Gives.{is_live}
use Rattle.client_core.specs.Targets.{is_leaving}
use Rattle.client_core.specs.State.{ClientState, at_moment, standing_then, session_then, note, note_lines}
use Rattle.client_core.specs.Handles.{handle_of, usable_handle}
use Rattle.client_core.specs.Poisons.{with_poisoned, poison_lines}
use Rattle.client_core.specs.Serves.{read_served, open_served}

-- at a moment
abbrev pub fault_then : ClientState → ℕ → Option Fault
fault_then s moment = session_fault s.session (standing_then s moment)

abbrev pub asks_to_leave : Ask → Bool
asks_to_leave asks.Leave = true
asks_to_leave _ = false

-- who has asked for the end of its session has none any more: while it lives it may ask for that again, and for nothing else
abbrev pub has_given_up : ClientState → ℕ → Ask → Bool
has_given_up s moment ask = s.leaving && not (asks_to_leave ask && is_live (session_then s moment))

abbrev pub fault_for : ClientState → ℕ → Ask → Option Fault
fault_for s moment ask = if has_given_up s moment ask then Some faults.NoSession else fault_then s moment

-- ---- what is done, or the first reason why it may not be

-- one call at a time, perhaps under a sequencer
abbrev pub send_plan : ClientState → Call → Option (List ℕ) → Target → Result AskPlan Fault
send_plan s call sequencer target = if is_some s.outstanding then Err faults.CallOutstanding else Ok (plans.Send call sequencer target)

-- the end of its session waits for no call but the one that asks for it: the reply to another is given up
abbrev pub may_leave : ClientState → Bool
may_leave s = is_none s.outstanding || not s.leaving

abbrev pub leave_plan : ClientState → Result AskPlan Fault
leave_plan s = if may_leave s then Ok (plans.Send calls.Leave None targets.Leaving) else Err faults.CallOutstanding

-- what the cache answers is answered, and all else is sent
abbrev pub served_or : Option AskPlan → Result AskPlan Fault → Result AskPlan Fault
served_or (Some plan) sent = Ok plan
served_or None sent = sent

abbrev pub open_plan : ClientState → ℕ → Open → Result AskPlan Fault
open_plan s moment opening = served_or (open_served s moment opening) (send_plan s (calls.Open opening) None targets.NewHandle)

-- a shared handle stays open at the master, so that the client closes it by itself; a Close is under no sequencer
abbrev pub close_plan : ClientState → ℕ → Option ClientHandle → Result AskPlan Fault
close_plan s number None = Err faults.BadHandle
close_plan s number (Some handle) = if handle.shared then Ok (plans.Release number) else send_plan s (calls.Close handle.bytes) None (targets.Closing number)

-- a Poison waits for no call
abbrev pub poison_plan : ℕ → Result ClientHandle Fault → Result AskPlan Fault
poison_plan number (Err fault) = Err fault
poison_plan number (Ok handle) = Ok (plans.Poison number handle)

-- under the sequencer of its handle
abbrev pub node_plan : ClientState → ℕ → ℕ → NodeCall → Result ClientHandle Fault → Result AskPlan Fault
node_plan s moment number call (Err fault) = Err fault
node_plan s moment number call (Ok handle) = served_or (read_served s moment handle call) (send_plan s (call_on handle.bytes call) handle.sequencer (targets.Handle number))

-- under the sequencer that is to be set
abbrev pub sequencer_plan : ClientState → ℕ → List ℕ → Result ClientHandle Fault → Result AskPlan Fault
sequencer_plan s number sequencer (Err fault) = Err fault
sequencer_plan s number sequencer (Ok handle) = send_plan s (calls.SetSequencer handle.bytes) (Some sequencer) (targets.Sequencing number)

-- first the handle, then the cache, then the outstanding call
abbrev pub plan_of : ClientState → ℕ → Ask → Result AskPlan Fault
plan_of s moment (asks.Open opening) = open_plan s moment opening
plan_of s moment (asks.Close number) = close_plan s number (handle_of s.handles number)
plan_of s moment (asks.Poison number) = poison_plan number (usable_handle (handle_of s.handles number))
plan_of s moment (asks.Node number call) = node_plan s moment number call (usable_handle (handle_of s.handles number))
plan_of s moment (asks.SetSequencer number sequencer) = sequencer_plan s number sequencer (usable_handle (handle_of s.handles number))
plan_of s moment (asks.CheckSequencer bytes) = send_plan s (calls.CheckSequencer bytes) None targets.Checking
plan_of s moment asks.Leave = leave_plan s

-- the call is made that ends the session
abbrev pub leaves : ClientState → ℕ → Ask → Bool
leaves s moment ask = (asks_to_leave ask && is_none (fault_for s moment ask)) && may_leave s

-- ---- one step

-- what comes of it, and the lines that are printed
abbrev pub asked_for : List Line → Outcome → AskOutcome
asked_for lines outcome = record { lines = lines; outcome = outcome }

abbrev pub message_of : ClientState → Call → Option (List ℕ) → Request
message_of s call sequencer = requests.Call (record { client = s.number; epoch = s.epoch; number = s.calls + 1; call = call; sequencer = sequencer })

-- the call is outstanding; before the one goes out that ends the session the cache is emptied and turned off
abbrev pub with_call : ClientState → ℕ → Call → Option (List ℕ) → Target → ClientState
with_call s moment call sequencer target = record s {
  clock = moment;
  calls = s.calls + 1;
  outstanding = Some (record { request = message_of s call sequencer; target = target });
  cache = shut_if (is_leaving target) s.cache;
  leaving = s.leaving || is_leaving target;
}

-- it is sent under the next number; after the last number nothing changes
abbrev pub send_step : ClientState → ℕ → Call → Option (List ℕ) → Target → ClientState × Result AskOutcome Fault
send_step s moment call sequencer target =
    if nat_lt (s.calls + 1) number_end then (with_call s moment call sequencer target, Ok (asked_for [] (Sent (message_of s call sequencer)))) else (s, Err faults.Exhausted)

-- a handle that is shared has the next number
abbrev pub with_shared : ClientState → ℕ → ClientHandle → ClientState
with_shared s moment handle = record s { clock = moment; handles = insert_entry nat_cmp s.handles (s.opened + 1) handle; opened = s.opened + 1 }

-- it is told as an Open that ended; after the last number nothing changes
abbrev pub share_step : ClientState → ℕ → Line → ClientHandle → ClientState × Result AskOutcome Fault
share_step s moment line handle =
    if nat_lt (s.opened + 1) number_end
    then (with_shared s moment handle, Ok (asked_for (line ∷ lines.Done s.number 0 (answers.Opened (s.opened + 1)) ∷ []) (Served (answers.Opened (s.opened + 1)))))
    else (s, Err faults.Exhausted)

-- the number is open no more
abbrev pub without_handle : ClientState → ℕ → ℕ → ClientState
without_handle s moment number = record s { clock = moment; handles = remove_entry (is_at (nat_cmp number)) s.handles }

abbrev pub carried_out : ClientState → ℕ → AskPlan → ClientState × Result AskOutcome Fault
carried_out s moment (plans.Send call sequencer target) = send_step s moment call sequencer target
carried_out s moment (plans.Poison number handle) = (with_poisoned s moment number handle, Ok (asked_for (poison_lines s number) Answered))
carried_out s moment (plans.Serve line answer) = (at_moment s moment, Ok (asked_for (line ∷ []) (Served answer)))
carried_out s moment (plans.Share line handle) = share_step s moment line handle
carried_out s moment (plans.Release number) = (without_handle s moment number, Ok (asked_for (lines.Done s.number 0 answers.Closed ∷ []) Answered))

abbrev pub ask_by : ClientState → ℕ → Result AskPlan Fault → ClientState × Result AskOutcome Fault
ask_by s moment (Ok plan) = carried_out s moment plan
ask_by s moment (Err fault) = (at_moment s moment, Ok (asked_for [] (Refused fault)))

-- first the time is noted. Where the client may rely on its session, its clock alone changes by that, and nothing is printed
abbrev pub ask_in : ClientState → ℕ → Ask → Option Fault → ClientState × Result AskOutcome Fault
ask_in s moment ask (Some fault) = (note s moment, Ok (asked_for (note_lines s moment) (Refused fault)))
ask_in s moment ask None = ask_by s moment (plan_of s moment ask)

abbrev pub ask_at : ClientState → Ask → Result ℕ Fault → ClientState × Result AskOutcome Fault
ask_at s ask (Ok moment) = ask_in s moment ask (fault_for s moment ask)
ask_at s ask (Err fault) = (s, Err fault)

unfoldable pub ask_step : ClientState → ℕ → Ask → ClientState × Result AskOutcome Fault
ask_step s now ask = ask_at s ask (moment s.clock now)

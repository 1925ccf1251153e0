-- The arm of the table by which a client is asked for a call, or for a Start.
use Rattle.std.proofs.Common.{◌≡◌, ◌≢◌, ℕ, ◌+◌, ◌<◌, max, Bool, true, false, cond, List, [], ◌∷◌, Option, Some, None, Result, Ok, Err, refl, sym, ap, ◌∙◌}
use Rattle.std.specs.Prelude.{◌&&◌, ◌||◌, not, nat_lt, is_none, is_some}
use Rattle.std.specs.Option.{option_map}
use Rattle.lease_core.specs.Lease.{moment_limit}
use Rattle.cache_core.specs.Caches.{answer}
use Rattle.cache_core.specs.Kept.{serving}
use Rattle.cache_core.specs.declared.standings.SessionTrust.{SessionTrust}
use Rattle.cache_core.specs.declared.standings.SessionTrust.TheVariants as standings
use Rattle.node_core.specs.Limits.{number_end}
use Rattle.node_core.specs.declared.refusals.Fault.{Fault}
use Rattle.node_core.specs.declared.refusals.Fault.TheVariants as faults
use Rattle.node_core.specs.declared.answers.Answer.{Answer}
use Rattle.node_core.specs.declared.answers.Answer.TheVariants as answers
use Rattle.node_core.specs.declared.lines.Line.TheVariants as lines
use Rattle.node_core.specs.declared.views.View.{View}
use Rattle.tags_cell.specs.declared.messages.calls.Call.{Call}
use Rattle.tags_cell.specs.declared.messages.calls.Call.TheVariants as calls
use Rattle.tags_cell.specs.declared.messages.calls.Open.{Open}
use Rattle.tags_cell.specs.declared.messages.outs.NewHandle.{NewHandle}
use Rattle.client_core.specs.declared.parts.asks.Ask.{Ask}
use Rattle.client_core.specs.declared.parts.asks.Ask.TheVariants as asks
use Rattle.client_core.specs.declared.parts.asks.NodeCall.{NodeCall}
use Rattle.client_core.specs.declared.parts.asks.AskOutcome.{AskOutcome}
use Rattle.client_core.specs.declared.parts.asks.Outcome.TheVariants as outcomes
use Rattle.client_core.specs.declared.parts.handles.ClientHandle.{ClientHandle}
use Rattle.client_core.specs.declared.plans.AskPlan.{AskPlan}
use Rattle.client_core.specs.declared.plans.AskPlan.TheVariants as plans
use Rattle.client_core.specs.declared.parts.sessions.ClientStanding.{ClientStanding}
use Rattle.client_core.specs.declared.parts.sessions.ClientStanding.TheVariants as sessions
use Rattle.client_core.specs.declared.parts.steps.Beaten.{Beaten}
use Rattle.client_core.specs.declared.parts.targets.Target.{Target}
use Rattle.client_core.specs.declared.parts.targets.Target.TheVariants as targets
use Rattle.client_core.specs.declared.parts.targets.Outstanding.{Outstanding}
use Rattle.client_core.specs.State.{ClientState, standing_then, session_behind, session_in, session_then, note_in, note_lines_in, note_lines}
use Rattle.client_core.specs.Handles.{handle_of, usable_handle}
use Rattle.client_core.specs.Serves.{serve_answer, cached_served, share, entry_served}
use Rattle.client_core.specs.Opens.{cached_answer, is_plain, only_reads, kept_handle}
use Rattle.client_core.specs.Asks.{fault_then, has_given_up, fault_for, send_plan, may_leave, served_or, close_plan, poison_plan, node_plan, sequencer_plan, plan_of, asked_for, message_of, with_call, with_shared, ask_by, ask_in, ask_at, ask_step, asks_to_leave}
use Rattle.client_core.specs.Calls.{call_on}
use Rattle.client_core.specs.Beats.{start_message, beat_message, with_beat, beaten, sends, beat_by, beat_at, beat_step}
use Rattle.client_core.specs.Cases.{noted_moment, is_free, IsSafe, IsUsable, IsShared, AskCase, asked_in, BeatCase, beaten_in}
use Rattle.client_core.specs.Cases.AskCase.{AskedTooLate, Unsafe, Refused, ReadServed, AbsenceServed, Shared, OutOfHandles, Released, OutOfCalls, Sent, Poisoned}
use Rattle.client_core.specs.Cases.BeatCase.{BeatTooLate, OutOfBeats, Starts, Beats, Quiet}
use Rattle.client_core.proofs.Noting.{either, less, not_less, faultless, then_in}
use Rattle.client_core.specs.Targets.{is_leaving}
use Rattle.tags_cell.specs.Messages.{is_leave}
use Rattle.client_core.specs.declared.parts.asks.NodeCall.TheVariants as node_calls

-- ---- ask

-- one of the cases is what is done
abbrev pub IsAsked : (s : ClientState) (now : ℕ) (ask : Ask) → ClientState × Result AskOutcome Fault → Type 0
IsAsked s now ask p = (c : AskCase s now ask) × (p ≡ asked_in s now ask c)

-- a plan is carried out
abbrev IsDone : (s : ClientState) (now : ℕ) (ask : Ask) → Result AskPlan Fault → Type 0
IsDone s now ask plan = plan_of s (noted_moment s now) ask ≡ plan → IsAsked s now ask (ask_by s (noted_moment s now) plan)

send_case : (s : ClientState) (now : ℕ) (ask : Ask) (call : Call) (sequencer : Option (List ℕ)) (target : Target) → is_leaving target ≡ asks_to_leave ask → is_leave call ≡ is_leaving target → IsSafe s now → is_free s ask ≡ true → IsDone s now ask (Ok (plans.Send call sequencer target))
send_case s now ask call sequencer target leaves ends safe free is =
    either (IsAsked s now ask) (nat_lt (s.calls + 1) number_end) (with_call s (noted_moment s now) call sequencer target, Ok (asked_for [] (outcomes.Sent (message_of s call sequencer)))) (s, Err faults.Exhausted)
    (λ h. (Sent call sequencer target (record { safe = safe; is_plan = is; free = free; leaves = leaves; ends = ends }) (less (s.calls + 1) number_end h), refl))
    (λ h. (OutOfCalls call sequencer target (record { safe = safe; is_plan = is; free = free; leaves = leaves; ends = ends }) (not_less (s.calls + 1) number_end h), refl))

sends_beside : (s : ClientState) (now : ℕ) (ask : Ask) (call : Call) (sequencer : Option (List ℕ)) (target : Target) (o : Option Outstanding) → is_leaving target ≡ asks_to_leave ask → is_leave call ≡ is_leaving target → IsSafe s now → s.outstanding ≡ o → IsDone s now ask (cond (is_some o) (Err faults.CallOutstanding) (Ok (plans.Send call sequencer target)))
sends_beside s now ask call sequencer target None leaves ends safe free is =
    send_case s now ask call sequencer target leaves ends safe (ap (λ o. is_none o || (asks_to_leave ask && not s.leaving)) free) is
sends_beside s now ask call sequencer target (Some former) leaves ends safe busy is = (Refused faults.CallOutstanding safe is, refl)

sends_case : (s : ClientState) (now : ℕ) (ask : Ask) (call : Call) (sequencer : Option (List ℕ)) (target : Target) → is_leaving target ≡ asks_to_leave ask → is_leave call ≡ is_leaving target → IsSafe s now → IsDone s now ask (send_plan s call sequencer target)
sends_case s now ask call sequencer target leaves ends safe is = sends_beside s now ask call sequencer target s.outstanding leaves ends safe refl is

-- the end of the session
leave_case : (s : ClientState) (now : ℕ) (b : Bool) → IsSafe s now → may_leave s ≡ b → IsDone s now asks.Leave (cond b (Ok (plans.Send calls.Leave None targets.Leaving)) (Err faults.CallOutstanding))
leave_case s now true safe may is = send_case s now asks.Leave calls.Leave None targets.Leaving refl refl safe may is
leave_case s now false safe may is = (Refused faults.CallOutstanding safe is, refl)

-- ---- an Open

share_case : (s : ClientState) (now : ℕ) (opening : Open) (view : View) (handle : NewHandle) → IsSafe s now → s.leaving ≡ false → IsShared s now opening view handle → IsAsked s now (asks.Open opening) (ask_by s (noted_moment s now) (Ok (share s opening view handle)))
share_case s now opening view handle safe stays shared =
    either (IsAsked s now (asks.Open opening)) (nat_lt (s.opened + 1) number_end)
    (with_shared s (noted_moment s now) (kept_handle handle opening true), Ok (asked_for (lines.Served s.number opening.name (Some view) ∷ lines.Done s.number 0 (answers.Opened (s.opened + 1)) ∷ []) (outcomes.Served (answers.Opened (s.opened + 1)))))
    (s, Err faults.Exhausted)
    (λ h. (Shared opening view handle safe refl shared (less (s.opened + 1) number_end h), refl))
    (λ h. (OutOfHandles opening view handle safe refl shared (not_less (s.opened + 1) number_end h), refl))

-- what is sent where the cache doesn't answer
abbrev sent_open : ClientState → Open → Result AskPlan Fault
sent_open s opening = send_plan s (calls.Open opening) None targets.NewHandle

kept_case : (s : ClientState) (now : ℕ) (opening : Open) (view : View) (k : Option NewHandle) → IsSafe s now → s.leaving ≡ false → is_plain opening ≡ true → answer s.cache (noted_moment s now) opening.name ≡ Some (Some view) → only_reads opening ≡ true → serving s.kept opening.name view.node.instance ≡ k → IsDone s now (asks.Open opening) (served_or (option_map (share s opening view) k) (sent_open s opening))
kept_case s now opening view None safe stays plain cached reads kept is = sends_case s now (asks.Open opening) (calls.Open opening) None targets.NewHandle refl refl safe is
kept_case s now opening view (Some handle) safe stays plain cached reads kept is = share_case s now opening view handle safe stays (record { stays = stays; plain = plain; reads = reads; cached = cached; kept = kept })

view_case : (s : ClientState) (now : ℕ) (opening : Open) (view : View) (b : Bool) → IsSafe s now → s.leaving ≡ false → is_plain opening ≡ true → answer s.cache (noted_moment s now) opening.name ≡ Some (Some view) → only_reads opening ≡ b → IsDone s now (asks.Open opening) (served_or (cond b (option_map (share s opening view) (serving s.kept opening.name view.node.instance)) None) (sent_open s opening))
view_case s now opening view true safe stays plain cached reads is = kept_case s now opening view (serving s.kept opening.name view.node.instance) safe stays plain cached reads refl is
view_case s now opening view false safe stays plain cached reads is = sends_case s now (asks.Open opening) (calls.Open opening) None targets.NewHandle refl refl safe is

entry_case : (s : ClientState) (now : ℕ) (opening : Open) (o : Option (Option View)) → IsSafe s now → s.leaving ≡ false → is_plain opening ≡ true → answer s.cache (noted_moment s now) opening.name ≡ o → IsDone s now (asks.Open opening) (served_or (entry_served s opening o) (sent_open s opening))
entry_case s now opening None safe stays plain cached is = sends_case s now (asks.Open opening) (calls.Open opening) None targets.NewHandle refl refl safe is
entry_case s now opening (Some None) safe stays plain cached is = (AbsenceServed opening safe stays refl plain cached, refl)
entry_case s now opening (Some (Some view)) safe stays plain cached is = view_case s now opening view (only_reads opening) safe stays plain cached refl is

plain_case : (s : ClientState) (now : ℕ) (opening : Open) (b : Bool) → IsSafe s now → s.leaving ≡ false → is_plain opening ≡ b → IsDone s now (asks.Open opening) (served_or (cond b (entry_served s opening (answer s.cache (noted_moment s now) opening.name)) None) (sent_open s opening))
plain_case s now opening true safe stays plain is = entry_case s now opening (answer s.cache (noted_moment s now) opening.name) safe stays plain refl is
plain_case s now opening false safe stays plain is = sends_case s now (asks.Open opening) (calls.Open opening) None targets.NewHandle refl refl safe is

-- ---- a call on a handle

shared_case : (s : ClientState) (now number : ℕ) (handle : ClientHandle) (b : Bool) → IsSafe s now → handle_of s.handles number ≡ Some handle → handle.shared ≡ b → IsDone s now (asks.Close number) (cond b (Ok (plans.Release number)) (send_plan s (calls.Close handle.bytes) None (targets.Closing number)))
shared_case s now number handle true safe found shared is = (Released number handle safe refl found shared, refl)
shared_case s now number handle false safe found shared is = sends_case s now (asks.Close number) (calls.Close handle.bytes) None (targets.Closing number) refl refl safe is

close_case : (s : ClientState) (now number : ℕ) (h : Option ClientHandle) → IsSafe s now → handle_of s.handles number ≡ h → IsDone s now (asks.Close number) (close_plan s number h)
close_case s now number None safe found is = (Refused faults.BadHandle safe is, refl)
close_case s now number (Some handle) safe found is = shared_case s now number handle handle.shared safe found refl is

poisoned_case : (s : ClientState) (now number : ℕ) (handle : ClientHandle) (b : Bool) → IsSafe s now → handle_of s.handles number ≡ Some handle → handle.poisoned ≡ b → IsDone s now (asks.Poison number) (poison_plan number (cond b (Err faults.Poisoned) (Ok handle)))
poisoned_case s now number handle true safe found at is = (Refused faults.Poisoned safe is, refl)
poisoned_case s now number handle false safe found at is = (Poisoned number handle safe refl (record { found = found; usable = at }), refl)

poison_case : (s : ClientState) (now number : ℕ) (h : Option ClientHandle) → IsSafe s now → handle_of s.handles number ≡ h → IsDone s now (asks.Poison number) (poison_plan number (usable_handle h))
poison_case s now number None safe found is = (Refused faults.BadHandle safe is, refl)
poison_case s now number (Some handle) safe found is = poisoned_case s now number handle handle.poisoned safe found refl is

-- what is sent where the cache doesn't answer
abbrev sent_call : ClientState → ℕ → ClientHandle → NodeCall → Result AskPlan Fault
sent_call s number handle call = send_plan s (call_on handle.bytes call) handle.sequencer (targets.Handle number)

-- a call on a node doesn't end the session
pub on_node : (bytes : List ℕ) (call : NodeCall) → is_leave (call_on bytes call) ≡ false
on_node bytes node_calls.Read = refl
on_node bytes node_calls.Stat = refl
on_node bytes node_calls.List = refl
on_node bytes (node_calls.Set content generation) = refl
on_node bytes (node_calls.SetAcl acls generation) = refl
on_node bytes node_calls.Delete = refl
on_node bytes (node_calls.Acquire mode) = refl
on_node bytes (node_calls.TryAcquire mode) = refl
on_node bytes node_calls.Release = refl
on_node bytes node_calls.GetSequencer = refl

sent_case : (s : ClientState) (now number : ℕ) (handle : ClientHandle) (call : NodeCall) → IsSafe s now → IsDone s now (asks.Node number call) (sent_call s number handle call)
sent_case s now number handle call safe is = sends_case s now (asks.Node number call) (call_on handle.bytes call) handle.sequencer (targets.Handle number) refl (on_node handle.bytes call) safe is

answer_case : (s : ClientState) (now number : ℕ) (handle : ClientHandle) (call : NodeCall) (entry : Option View) (o : Option Answer) → IsSafe s now → s.leaving ≡ false → IsUsable s number handle → handle.mode.read ≡ true → handle.sequencer ≡ None → answer s.cache (noted_moment s now) handle.name ≡ Some entry → cached_answer handle call entry ≡ o → IsDone s now (asks.Node number call) (served_or (option_map (serve_answer s handle entry) o) (sent_call s number handle call))
answer_case s now number handle call entry None safe stays usable reads unsequenced cached answered is = sent_case s now number handle call safe is
answer_case s now number handle call entry (Some given) safe stays usable reads unsequenced cached answered is = (ReadServed number handle call entry given safe refl (record { stays = stays; of_handle = usable; reads = reads; unsequenced = unsequenced; cached = cached; answers = answered }), refl)

cached_case : (s : ClientState) (now number : ℕ) (handle : ClientHandle) (call : NodeCall) (o : Option (Option View)) → IsSafe s now → s.leaving ≡ false → IsUsable s number handle → handle.mode.read ≡ true → handle.sequencer ≡ None → answer s.cache (noted_moment s now) handle.name ≡ o → IsDone s now (asks.Node number call) (served_or (cached_served s handle call o) (sent_call s number handle call))
cached_case s now number handle call None safe stays usable reads unsequenced cached is = sent_case s now number handle call safe is
cached_case s now number handle call (Some entry) safe stays usable reads unsequenced cached is = answer_case s now number handle call entry (cached_answer handle call entry) safe stays usable reads unsequenced cached refl is

unsequenced_case : (s : ClientState) (now number : ℕ) (handle : ClientHandle) (call : NodeCall) (o : Option (List ℕ)) → IsSafe s now → s.leaving ≡ false → IsUsable s number handle → handle.mode.read ≡ true → handle.sequencer ≡ o → IsDone s now (asks.Node number call) (served_or (cond (is_none o) (cached_served s handle call (answer s.cache (noted_moment s now) handle.name)) None) (sent_call s number handle call))
unsequenced_case s now number handle call None safe stays usable reads at is = cached_case s now number handle call (answer s.cache (noted_moment s now) handle.name) safe stays usable reads at refl is
unsequenced_case s now number handle call (Some sequencer) safe stays usable reads at is = sent_case s now number handle call safe is

reads_case : (s : ClientState) (now number : ℕ) (handle : ClientHandle) (call : NodeCall) (b : Bool) → IsSafe s now → s.leaving ≡ false → IsUsable s number handle → handle.mode.read ≡ b → IsDone s now (asks.Node number call) (served_or (cond (b && is_none handle.sequencer) (cached_served s handle call (answer s.cache (noted_moment s now) handle.name)) None) (sent_call s number handle call))
reads_case s now number handle call true safe stays usable reads is = unsequenced_case s now number handle call handle.sequencer safe stays usable reads refl is
reads_case s now number handle call false safe stays usable reads is = sent_case s now number handle call safe is

call_case : (s : ClientState) (now number : ℕ) (handle : ClientHandle) (call : NodeCall) → IsSafe s now → s.leaving ≡ false → IsUsable s number handle → IsDone s now (asks.Node number call) (node_plan s (noted_moment s now) number call (Ok handle))
call_case s now number handle call safe stays usable is = reads_case s now number handle call handle.mode.read safe stays usable refl is

usable_case : (s : ClientState) (now number : ℕ) (handle : ClientHandle) (call : NodeCall) (b : Bool) → IsSafe s now → s.leaving ≡ false → handle_of s.handles number ≡ Some handle → handle.poisoned ≡ b → IsDone s now (asks.Node number call) (node_plan s (noted_moment s now) number call (cond b (Err faults.Poisoned) (Ok handle)))
usable_case s now number handle call true safe stays found at is = (Refused faults.Poisoned safe is, refl)
usable_case s now number handle call false safe stays found at is = call_case s now number handle call safe stays (record { found = found; usable = at }) is

node_case : (s : ClientState) (now number : ℕ) (call : NodeCall) (h : Option ClientHandle) → IsSafe s now → s.leaving ≡ false → handle_of s.handles number ≡ h → IsDone s now (asks.Node number call) (node_plan s (noted_moment s now) number call (usable_handle h))
node_case s now number call None safe stays found is = (Refused faults.BadHandle safe is, refl)
node_case s now number call (Some handle) safe stays found is = usable_case s now number handle call handle.poisoned safe stays found refl is

set_case : (s : ClientState) (now number : ℕ) (sequencer : List ℕ) (handle : ClientHandle) (b : Bool) → IsSafe s now → IsDone s now (asks.SetSequencer number sequencer) (sequencer_plan s number sequencer (cond b (Err faults.Poisoned) (Ok handle)))
set_case s now number sequencer handle true safe is = (Refused faults.Poisoned safe is, refl)
set_case s now number sequencer handle false safe is = sends_case s now (asks.SetSequencer number sequencer) (calls.SetSequencer handle.bytes) (Some sequencer) (targets.Sequencing number) refl refl safe is

sequencer_case : (s : ClientState) (now number : ℕ) (sequencer : List ℕ) (h : Option ClientHandle) → IsSafe s now → IsDone s now (asks.SetSequencer number sequencer) (sequencer_plan s number sequencer (usable_handle h))
sequencer_case s now number sequencer None safe is = (Refused faults.BadHandle safe is, refl)
sequencer_case s now number sequencer (Some handle) safe is = set_case s now number sequencer handle handle.poisoned safe is

-- ---- the lemma

stays_of : (b : Bool) → (b && true) ≡ false → b ≡ false
stays_of true h = cc
stays_of false h = refl

plan_case : (s : ClientState) (now : ℕ) (ask : Ask) → IsSafe s now → has_given_up s (noted_moment s now) ask ≡ false → IsAsked s now ask (ask_by s (noted_moment s now) (plan_of s (noted_moment s now) ask))
plan_case s now (asks.Open opening) safe h = plain_case s now opening (is_plain opening) safe (stays_of s.leaving h) refl refl
plan_case s now (asks.Close number) safe h = close_case s now number (handle_of s.handles number) safe refl refl
plan_case s now (asks.Poison number) safe h = poison_case s now number (handle_of s.handles number) safe refl refl
plan_case s now (asks.Node number call) safe h = node_case s now number call (handle_of s.handles number) safe (stays_of s.leaving h) refl refl
plan_case s now (asks.SetSequencer number sequencer) safe h = sequencer_case s now number sequencer (handle_of s.handles number) safe refl
plan_case s now (asks.CheckSequencer bytes) safe h = sends_case s now (asks.CheckSequencer bytes) (calls.CheckSequencer bytes) None targets.Checking refl refl safe refl
plan_case s now asks.Leave safe h = leave_case s now (may_leave s) safe refl refl

not_given_up : (b : Bool) (o : Option Fault) → cond b (Some faults.NoSession) o ≡ None → (b ≡ false) × (o ≡ None)
not_given_up true o h = cc
not_given_up false o h = (refl, h)

fault_case : (s : ClientState) (now : ℕ) (ask : Ask) (o : Option Fault) → now < moment_limit → fault_for s (noted_moment s now) ask ≡ o → IsAsked s now ask (ask_in s (noted_moment s now) ask o)
fault_case s now ask (Some fault) early is = (Unsafe fault early is, refl)
fault_case s now ask None early is =
    let t = not_given_up (has_given_up s (noted_moment s now) ask) (fault_then s (noted_moment s now)) is in
    let r = faultless s (noted_moment s now) t.1 in
    plan_case s now ask (record { early = early; live = r.live; safe = r.safe; leased = r.leased }) t.0

pub ask_case : (s : ClientState) (now : ℕ) (ask : Ask) → IsAsked s now ask (ask_step s now ask)
unfolding ask_step
ask_case s now ask =
    either {A = Result ℕ Fault} (λ m. IsAsked s now ask (ask_at s ask m)) (nat_lt now moment_limit) (Ok (max s.clock now)) (Err faults.Exhausted)
    (λ h. fault_case s now ask (fault_for s (noted_moment s now) ask) (less now moment_limit h) refl) (λ h. (AskedTooLate (not_less now moment_limit h), refl))

-- ---- beat

-- one of the cases is what is done
abbrev pub IsBeaten : (s : ClientState) (now : ℕ) → ClientState × Result Beaten Fault → Type 0
IsBeaten s now p = (c : BeatCase s now) × (p ≡ beaten_in s now c)

starts_case : (s : ClientState) (now : ℕ) → now < moment_limit → s.session ≡ sessions.Unstarted → IsBeaten s now (sends s (noted_moment s now) (start_message s))
starts_case s now early is =
    either (IsBeaten s now) (nat_lt (s.beats + 1) number_end) (with_beat (note_in s.session s (noted_moment s now)) (noted_moment s now), Ok (beaten (note_lines_in s.session s (noted_moment s now)) (Some (start_message s)))) (s, Err faults.Exhausted)
    (λ h. (Starts early is (less (s.beats + 1) number_end h), ap (λ x. (with_beat (note_in x s (noted_moment s now)) (noted_moment s now), Ok (beaten (note_lines_in x s (noted_moment s now)) (Some (start_message s))))) is))
    (λ h. (OutOfBeats early (not_less (s.beats + 1) number_end h), refl))

beats_case : (s : ClientState) (now : ℕ) → now < moment_limit → s.session ≡ sessions.Live → session_then s (noted_moment s now) ≡ sessions.Live → IsBeaten s now (sends s (noted_moment s now) (beat_message s))
beats_case s now early live then =
    either (IsBeaten s now) (nat_lt (s.beats + 1) number_end) (with_beat (note_in s.session s (noted_moment s now)) (noted_moment s now), Ok (beaten (note_lines s (noted_moment s now)) (Some (beat_message s)))) (s, Err faults.Exhausted)
    (λ h. (Beats early live then (less (s.beats + 1) number_end h), ap (λ x. (with_beat (note_in x s (noted_moment s now)) (noted_moment s now), Ok (beaten (note_lines s (noted_moment s now)) (Some (beat_message s))))) live))
    (λ h. (OutOfBeats early (not_less (s.beats + 1) number_end h), refl))

quiet_case : (s : ClientState) (now : ℕ) (session : ClientStanding) → now < moment_limit → session_then s (noted_moment s now) ≡ session → session ≢ sessions.Unstarted → session ≢ sessions.Live → IsBeaten s now (beat_by s (noted_moment s now) sessions.Lost)
quiet_case s now session early is started live = (Quiet early (λ e. started (sym is ∙ e)) (λ e. live (sym is ∙ e)), refl)

live_case : (s : ClientState) (now : ℕ) (standing : SessionTrust) → now < moment_limit → s.session ≡ sessions.Live → standing_then s (noted_moment s now) ≡ standing → IsBeaten s now (beat_by s (noted_moment s now) (session_behind standing))
live_case s now standings.Safe early live at = beats_case s now early live (then_in s (noted_moment s now) sessions.Live live (ap session_behind at))
live_case s now (standings.Jeopardy since) early live at = beats_case s now early live (then_in s (noted_moment s now) sessions.Live live (ap session_behind at))
live_case s now standings.Lost early live at = quiet_case s now sessions.Lost early (then_in s (noted_moment s now) sessions.Lost live (ap session_behind at)) (λ e. cc) (λ e. cc)

session_case : (s : ClientState) (now : ℕ) (session : ClientStanding) → now < moment_limit → s.session ≡ session → IsBeaten s now (beat_by s (noted_moment s now) (session_in session s (noted_moment s now)))
session_case s now sessions.Unstarted early is = starts_case s now early is
session_case s now sessions.Live early is = live_case s now (standing_then s (noted_moment s now)) early is refl
session_case s now sessions.Lost early is = quiet_case s now sessions.Lost early (ap (λ x. session_in x s (noted_moment s now)) is) (λ e. cc) (λ e. cc)
session_case s now sessions.TurnedAway early is = quiet_case s now sessions.TurnedAway early (ap (λ x. session_in x s (noted_moment s now)) is) (λ e. cc) (λ e. cc)

pub beat_case : (s : ClientState) (now : ℕ) → IsBeaten s now (beat_step s now)
unfolding beat_step
beat_case s now =
    either {A = Result ℕ Fault} (λ m. IsBeaten s now (beat_at s m)) (nat_lt now moment_limit) (Ok (max s.clock now)) (Err faults.Exhausted)
    (λ h. session_case s now s.session (less now moment_limit h) refl) (λ h. (BeatTooLate (not_less now moment_limit h), refl))

-- The arm of the table that a message takes.
use Rattle.std.proofs.Common.{◌≡◌, ◌≢◌, ℕ, ◌<◌, List, [], Bool, true, false, cond, Option, Some, None, Result, Ok, Err, refl, arith, eqb, inl, inr}
use Rattle.std.specs.Prelude.{◌==◌, ◌||◌, nat_lt, is_none, ◌&&◌, is_some, not}
use Rattle.std.proofs.lemmas.Bool.{and_parts, not-true, not-false}
use Rattle.std.proofs.lemmas.Bool.Decides.{nat_tests}
use Rattle.node_core.specs.declared.refusals.Fault.{Fault}
use Rattle.node_core.specs.declared.refusals.Fault.TheVariants as faults
use Rattle.tags_cell.specs.declared.messages.requests.Start.{Start}
use Rattle.tags_cell.specs.declared.messages.beats.Beat.{Beat}
use Rattle.tags_cell.specs.declared.messages.requests.CallMessage.{CallMessage}
use Rattle.tags_cell.specs.declared.messages.requests.Request.{Request}
use Rattle.tags_cell.specs.declared.messages.requests.Request.TheVariants as requests
use Rattle.tags_cell.specs.declared.messages.outs.CallResult.{CallResult}
use Rattle.tags_cell.specs.declared.messages.outs.CallResult.TheVariants as results
use Rattle.tags_cell.specs.declared.messages.outs.Reply.{Reply}
use Rattle.cell_core.specs.declared.admissions.Admission.{Admission}
use Rattle.master_parts.specs.declared.pending.Taken.{Taken}
use Rattle.session_core.specs.declared.records.LastCall.{LastCall}
use Rattle.session_core.specs.Session.{beat_fault, kept_answer}
use Rattle.master_parts.specs.declared.pending.Task.TheVariants as tasks
use Rattle.master_parts.specs.declared.pending.Work.TheVariants as works
use Rattle.master_state.specs.State.{MasterState}
use Rattle.master_state.specs.Lookups.{session_of, kept_of, is_live, is_full, may_start, turned_away, refusal, nothing, is_spent, noted, repeated}
use Rattle.cell_core.specs.Step.{is_older, leaves_beside, live_step, queued, replied, is_cachable, granting, telling, waits, admission_for, admit_step, new_call_by, new_call, kept_step, call_step, start_step, beat_by, beat_step, take_at, take_step, is_past_end, ended_step}
use Rattle.master_state.specs.CallsWaiting.{has_call}
use Rattle.master_state.specs.Updates.{with_note}
use Rattle.cell_core.specs.Cases.{IsHeard, IsNew, TakeCase, taken_by}
use Rattle.cell_core.specs.Cases.TakeCase.{StartRefused, StartRecovering, StartFull, StartQueued, OldBeat, BeatRefused, BeatParked, OldEpoch, NoSession, Repeated, OlderCall, Outstanding, LeavesBeside, Recovering, Answered, Granted, Waits, LeftBefore}
use Rattle.tags_cell.specs.Messages.{is_leave}

-- one of the cases is what is done
abbrev pub IsCase : (s : MasterState) → Request → MasterState × Taken → Type 0
IsCase s request p = (c : TakeCase s request) × (p ≡ taken_by s request c)

either : (s : MasterState) (request : Request) (b : Bool) (x y : MasterState × Taken) → (b ≡ true → IsCase s request x) → (b ≡ false → IsCase s request y) → IsCase s request (cond b x y)
either s request true x y h k = h refl
either s request false x y h k = k refl

same : (n m : ℕ) → eqb n m ≡ true → n ≡ m
same n m h = grind (arith, nat_tests)

other : (n m : ℕ) → eqb n m ≡ false → n ≢ m
other n m h = grind (arith, nat_tests)

less : (n m : ℕ) → nat_lt n m ≡ true → n < m
less n m h = grind (arith, nat_tests)

above : (n m : ℕ) → eqb n m ≡ false → nat_lt n m ≡ false → m < n
above n m h k = grind (arith, nat_tests)

no_reply : (o : Option Reply) → is_none o ≡ true → o ≡ None
no_reply None h = refl
no_reply (Some reply) h = cc

some_reply : (o : Option Reply) → is_none o ≡ false → (reply : Reply) × (o ≡ Some reply)
some_reply None h = cc
some_reply (Some reply) h = (reply, refl)

-- ---- a new call

-- an answer, by the name of which it tells
told_case : (s : MasterState) (request : Request) (message : CallMessage) (admission : Admission) (answer : CallResult) (o : Option (List ℕ)) → IsNew s request message → s.recovering ≡ false → admission_for s message ≡ admission → admission.answer ≡ Some answer → admission.told ≡ o → IsCase s request (telling (with_note s admission.note) message.client message.number answer o)
told_case s request message admission answer None new serving is some none =
    (Answered message admission.note answer new serving (record { is_noted = rw is refl; is_answer = inl (rw is some, rw (is, none) tt) }), refl)
told_case s request message admission answer (Some name) new serving is some told =
    let t : MasterState = with_note s admission.note in
    either s request (is_cachable t message.client name) (granting t message.client message.number answer name) (replied t message.client message.number answer)
    (λ may. (Granted message admission.note answer name new serving (record { is_noted = rw is refl; is_answer = rw is some; is_told = rw is told; cachable = may }), refl))
    (λ kept. (Answered message admission.note answer new serving (record { is_noted = rw is refl; is_answer = inl (rw is some, rw (is, told) kept) }), refl))

-- by what it is answered at once, and whether there is room
admit_case : (s : MasterState) (request : Request) (message : CallMessage) (admission : Admission) (o : Option CallResult) → IsNew s request message → s.recovering ≡ false → admission_for s message ≡ admission → admission.answer ≡ o → IsCase s request (admit_step (with_note s admission.note) message admission.touched admission.told o)
admit_case s request message admission None new serving is none =
    let t : MasterState = with_note s admission.note in
    either s request (is_full t) (replied t message.client message.number (results.Refused faults.Busy)) (waits t message admission.touched)
    (λ full. (Answered message admission.note (results.Refused faults.Busy) new serving (record { is_noted = rw is refl; is_answer = inr (rw is none, full, refl) }), refl))
    (λ room. (Waits message admission.note admission.touched new serving (record { is_touched = rw is refl; is_noted = rw is refl; passes = rw is none; room = room }), refl))
admit_case s request message admission (Some answer) new serving is some = told_case s request message admission answer admission.told new serving is some refl

new_case : (s : MasterState) (request : Request) (message : CallMessage) → IsNew s request message → IsCase s request (new_call s message)
new_case s request message new =
    let admission : Admission = admission_for s message in
    either s request s.recovering (replied s message.client message.number (results.Refused faults.Recovering)) (new_call_by s message admission)
    (λ recovering. (Recovering message new recovering, refl))
    (λ serving. admit_case s request message admission admission.answer new serving refl refl)

-- ---- a call, by the client's last one

-- how it stands to the last one, by a test
by_test : (s : MasterState) (request : Request) (message : CallMessage) (b : Bool) (x y : Result (Option (LastCall Reply)) Fault) → (b ≡ true → IsCase s request (kept_step s message x)) → (b ≡ false → IsCase s request (kept_step s message y)) → IsCase s request (kept_step s message (cond b x y))
by_test s request message true x y h k = h refl
by_test s request message false x y h k = k refl

kept_case : (s : MasterState) (request : Request) (message : CallMessage) (o : Option (LastCall Reply)) → IsHeard s request message → kept_of s message.client ≡ o → IsCase s request (kept_step s message (kept_answer o message.number))
kept_case s request message None heard is = new_case s request message (record { heard = heard; behind = rw is tt })
kept_case s request message (Some kept) heard is =
    let waiting : Result (Option (LastCall Reply)) Fault = cond (is_none kept.reply) (Err faults.CallOutstanding) (Ok None) in
    let older : Result (Option (LastCall Reply)) Fault = cond (nat_lt message.number kept.number) (Err faults.Repeat) waiting in
    by_test s request message (message.number == kept.number) (Ok (Some kept)) older (λ e. (Repeated message kept heard is (same message.number kept.number e), refl)) (λ apart.
    by_test s request message (nat_lt message.number kept.number) (Err faults.Repeat) waiting (λ e. (OlderCall message kept heard is (less message.number kept.number e), refl)) (λ more.
    let high = above message.number kept.number apart more in
    by_test s request message (is_none kept.reply) (Err faults.CallOutstanding) (Ok None) (λ e. (Outstanding message kept heard is high (no_reply kept.reply e), refl)) (λ e.
    let t = some_reply kept.reply e in
    new_case s request message (record { heard = heard; behind = rw is (t.0, t.1, high) }))))

-- the end of a session, while its last call waits for a lock
older_kept : (number : ℕ) (o : Option (LastCall Reply)) → is_older number o ≡ true → (kept : LastCall Reply) × (o ≡ Some kept) × (kept.number < number) × (kept.reply ≡ None)
older_kept number None h = cc
older_kept number (Some kept) h =
    let t = and_parts (is_none kept.reply) (nat_lt kept.number number) h in
    (kept, refl, less kept.number number t.1, no_reply kept.reply t.0)

beside_case : (s : MasterState) (request : Request) (message : CallMessage) → IsHeard s request message → is_full s ≡ false → leaves_beside s message ≡ true → IsCase s request (waits s message None)
beside_case s request message heard room h =
    let older = is_older message.number (kept_of s message.client) in
    let quiet = not (has_call message.client s.gate.waiting) in
    let t = and_parts (is_leave message.call && older) (not s.recovering && quiet) h in
    let own = and_parts (is_leave message.call) older t.0 in
    let up = and_parts (not s.recovering) quiet t.1 in
    let last = older_kept message.number (kept_of s message.client) own.1 in (
      LeavesBeside message heard (record {
        leave = own.0;
        kept = last.0;
        found = last.1;
        more = last.2;
        none = last.3;
        alone = not-true (has_call message.client s.gate.waiting) up.1;
        serving = not-true s.recovering up.0;
        room = room;
      }),
      refl,
    )

neither : (a b : Bool) → (a || b) ≡ false → (a ≡ false) × (b ≡ false)
neither true b h = cc
neither false b h = (refl, h)

-- the session has ended
ended_case : (s : MasterState) (request : Request) (message : CallMessage) (o : Option (LastCall Reply)) → request ≡ requests.Call message → message.epoch ≡ s.epoch → is_live s message.client ≡ false → kept_of s message.client ≡ o → IsCase s request (ended_step s message (kept_answer o message.number))
ended_case s request message None is epoch ended none = (NoSession message is epoch ended, refl)
ended_case s request message (Some kept) is epoch ended some = by_number (message.number == kept.number) refl
  where
    away : IsCase s request (s, refusal s message.client message.number faults.NoSession)
    away = (NoSession message is epoch ended, refl)

    behind : (b c : Bool) → IsCase s request (ended_step s message (cond b (Err faults.Repeat) (cond c (Err faults.CallOutstanding) (Ok None))))
    behind true c = away
    behind false true = away
    behind false false = away

    by_number : (b : Bool) → (message.number == kept.number) ≡ b → IsCase s request (ended_step s message (cond b (Ok (Some kept)) (cond (nat_lt message.number kept.number) (Err faults.Repeat) (cond (is_none kept.reply) (Err faults.CallOutstanding) (Ok None)))))
    by_number true e =
        either s request (is_leave message.call && is_some kept.reply) (s, repeated kept) (s, refusal s message.client message.number faults.NoSession)
        (λ left. (LeftBefore message kept is epoch ended some (same message.number kept.number e), refl))
        (λ other. away)
    by_number false e = behind (nat_lt message.number kept.number) (is_none kept.reply)

call_case : (s : MasterState) (request : Request) (message : CallMessage) → request ≡ requests.Call message → IsCase s request (call_step s message)
call_case s request message is =
    let kept = kept_step s message (kept_answer (kept_of s message.client) message.number) in
    let lives = live_step s message in
    let over = ended_step s message (kept_answer (kept_of s message.client) message.number) in
    let live = cond (is_live s message.client) lives over in
    either s request (message.epoch == s.epoch) live (s, refusal s message.client message.number (faults.OldEpoch s.epoch)) (λ e.
    let epoch = same message.epoch s.epoch e in
    either s request (is_live s message.client) lives over
    (λ alive.
    let heard : IsHeard s request message = record { is_call = is; epoch = epoch; live = alive } in
    either s request (is_full s || not (leaves_beside s message)) kept (waits s message None) (λ h. kept_case s request message (kept_of s message.client) heard refl)
    (λ h.
    let t = neither (is_full s) (not (leaves_beside s message)) h in
    beside_case s request message heard t.0 (not-false (leaves_beside s message) t.1)))
    (λ ended. ended_case s request message (kept_of s message.client) is epoch ended refl))
    (λ e. (OldEpoch message is (other message.epoch s.epoch e), refl))

-- ---- a Start

start_case : (s : MasterState) (request : Request) (start : Start) → request ≡ requests.Start start → IsCase s request (start_step s start)
start_case s request start is =
    let waits : MasterState × Taken = (queued s [] (tasks.Asked (record { client = start.client; number = start.number; work = works.Starts start.principal s.clock })), nothing) in
    let room = cond (is_full s) (s, turned_away s start.client start.number faults.Busy) waits in
    let serving = cond s.recovering (s, turned_away s start.client start.number faults.Recovering) room in
    either s request (may_start s start.client start.principal) serving (s, refusal s start.client start.number faults.NoSession) (λ may.
    either s request s.recovering (s, turned_away s start.client start.number faults.Recovering) room (λ e. (StartRecovering start is may e, refl)) (λ e.
    either s request (is_full s) (s, turned_away s start.client start.number faults.Busy) waits (λ full. (StartFull start is may e full, refl)) (λ free. (StartQueued start is may e free, refl))))
    (λ may. (StartRefused start is may, refl))

-- ---- a Beat

fault_case : (s : MasterState) (request : Request) (beat : Beat) (o : Option Fault) → request ≡ requests.Beat beat → beat.epoch ≡ s.epoch → beat_fault (session_of s beat.client) beat ≡ o → IsCase s request (beat_by s beat o)
fault_case s request beat None is epoch none = (BeatParked beat is epoch none, refl)
fault_case s request beat (Some fault) is epoch some = (BeatRefused beat fault is epoch some, refl)

beat_case : (s : MasterState) (request : Request) (beat : Beat) → request ≡ requests.Beat beat → IsCase s request (beat_step s beat)
beat_case s request beat is =
    either s request (beat.epoch == s.epoch) (beat_by s beat (beat_fault (session_of s beat.client) beat)) (s, refusal s beat.client beat.number (faults.OldEpoch s.epoch))
    (λ e. fault_case s request beat (beat_fault (session_of s beat.client) beat) is (same beat.epoch s.epoch e) refl)
    (λ e. (OldBeat beat is (other beat.epoch s.epoch e), refl))

-- ---- the lemma

pub take_case : (s : MasterState) (request : Request) → IsCase s request (take_at s request)
take_case s (requests.Start start) = start_case s (requests.Start start) start refl
take_case s (requests.Beat beat) = beat_case s (requests.Beat beat) beat refl
take_case s (requests.Call message) = call_case s (requests.Call message) message refl

-- a message that is taken at a moment
pub taken_case : (s new : MasterState) (now : ℕ) (request : Request) (taken : Taken) → take_step s now request ≡ Ok (new, taken) → (c : TakeCase (noted s now) request) × ((new, taken) ≡ taken_by (noted s now) request c)
unfolding take_step
taken_case s new now request taken h =
    (elim (is_past_end now || is_spent s) as (λ b. cond {A = Result (MasterState × Taken) Fault} b (Err faults.Exhausted) (Ok (take_at (noted s now) request)) ≡ Ok (new, taken) → IsCase (noted s now) request (new, taken)) [
      | true ↦ (λ e. cc)
      | false ↦ (λ e.
          let is : take_at (noted s now) request ≡ (new, taken) = cc in
          rw (← is) (take_case (noted s now) request))
    ]) h

unspent : (past spent : Bool) (x : MasterState × Taken) (new : MasterState) (taken : Taken) → cond {A = Result (MasterState × Taken) Fault} (past || spent) (Err faults.Exhausted) (Ok x) ≡ Ok (new, taken) → spent ≡ false
unspent true spent x new taken h = cc
unspent false true x new taken h = cc
unspent false false x new taken h = refl

-- no message is taken where a count is at its end
pub taken_unspent : (s new : MasterState) (now : ℕ) (request : Request) (taken : Taken) → take_step s now request ≡ Ok (new, taken) → is_spent s ≡ false
unfolding take_step
taken_unspent s new now request taken h = unspent (is_past_end now) (is_spent s) (take_at (noted s now) request) new taken h

-- What rests of a master's freedom to change a name and to end a session, where it takes a message or sweeps and nothing leaves the gate.
use Rattle.std.proofs.Common.{◌≡◌, ℕ, ◌+◌, ◌<◌, ◌≤◌, Bool, true, false, List, [], ◌∷◌, ◌++◌, Option, Some, None, arith, refl, sym, ap, ◌∙◌, subst}
use Rattle.std.specs.Prelude.{◌==◌, ◌&&◌, not}
use Rattle.std.specs.Option.{option_map}
use Rattle.std.specs.Str.{bytes_eq}
use Rattle.tags_cell.specs.declared.messages.requests.Request.{Request}
use Rattle.tags_cell.specs.declared.messages.requests.CallMessage.{CallMessage}
use Rattle.tags_cell.specs.declared.messages.beats.Beat.{Beat}
use Rattle.tags_cell.specs.declared.messages.outs.CallResult.{CallResult}
use Rattle.tags_cell.specs.declared.messages.outs.CallResult.TheVariants as results
use Rattle.tags_cell.specs.declared.messages.outs.Reply.{Reply}
use Rattle.collections.proofs.Keys.{bytes_same}
use Rattle.node_core.specs.declared.refusals.Fault.TheVariants as faults
use Rattle.rights_core.specs.declared.cache_rights.CacheRight.{CacheRight}
use Rattle.rights_core.specs.declared.endings.Ending.{Ending}
use Rattle.rights_core.specs.Rights.{holds, granted, ended, asked_back, is_ended_by, IsRecorded}
use Rattle.rights_core.specs.Laws.{asked_for}
use Rattle.rights_core.proofs.OneName.{asking_numbers_rights, ending_frees}
use Rattle.session_core.specs.declared.records.LastCall.{LastCall}
use Rattle.session_core.specs.declared.records.Session.{Session}
use Rattle.session_core.specs.Session.{beaten, keeping}
use Rattle.session_core.specs.Sessions.{SessionTable, with_session, session_of as session_in}
use Rattle.session_core.proofs.OneClient.{own_session, other_session}
use Rattle.gate_core.specs.declared.pending.Pending.{Pending}
use Rattle.gate_core.specs.declared.pending.Waiting.{Waiting}
use Rattle.gate_core.specs.Gate.{uncachable}
use Rattle.gate_core.specs.Laws.{touching}
use Rattle.gate_core.proofs.OneChange.{push_touches, uncachable_is_touched}
use Rattle.master_parts.specs.declared.handles.HandleNote.{HandleNote}
use Rattle.master_parts.specs.declared.pending.Task.{Task}
use Rattle.master_parts.specs.declared.pending.Task.TheVariants as tasks
use Rattle.master_parts.specs.declared.pending.Work.TheVariants as works
use Rattle.master_parts.specs.Answered.{answered_by}
use Rattle.master_state.specs.State.{MasterState}
use Rattle.master_state.specs.Lookups.{session_of, acknowledgement, reply_of, stamped_reply}
use Rattle.master_state.specs.Updates.{with_note}
use Rattle.cell_core.specs.declared.asking.TouchedNames.{TouchedNames}
use Rattle.cell_core.specs.Step.{queued, parked, recorded, replied, granting, waits, with_call, asking_for, names_of, task_of, is_cachable}
use Rattle.cell_core.specs.Cases.{TakeCase, taken_by}
use Rattle.cell_core.specs.Cases.TakeCase.{StartQueued, BeatParked, LeavesBeside, Recovering, Answered, Granted, Waits}
use Rattle.world_cell.specs.Left.{IsOverAs, IsOver}
use Rattle.world_cell.specs.Slices.{SeenRight, seen_of}
use Rattle.world_cell.proofs.SliceCalls.{asked_for_all, asking_rights, asking_waiting, asking_seen}
use Rattle.world_cell.proofs.SliceRights.{granted_to_another}
use Rattle.world_cell.proofs.Slices.{by_test, is_same, is_other, seen_stays}

-- what is free to change stays so, and so does what may end
pub record Stays (now : ℕ) (s t : MasterState) : Type 0 where
  pub pending : (x : List ℕ) → 0 < touching x s.gate.waiting → 0 < touching x t.gate.waiting
  pub held : (c : ℕ) (x : List ℕ) → 0 < touching x s.gate.waiting → holds c x s.rights ≡ false → holds c x t.rights ≡ false
  pub over : (c : ℕ) → IsOver now s c → IsOver now t c

pub stays_same : (now : ℕ) (s : MasterState) → Stays now s s
stays_same now s = record { pending = λ x more. more; held = λ c x more free. free; over = λ c over. over }

pub stays_on : (now : ℕ) (s t u : MasterState) → Stays now s t → Stays now t u → Stays now s u
stays_on now s t u first past = record {
  pending = λ x more. past.pending x (first.pending x more);
  held = λ c x more free. past.held c x (first.pending x more) (first.held c x more free);
  over = λ c over. past.over c (first.over c over);
}

-- nothing changes in the gate and in the rights, and of sessions nothing that is seen
pub stays_seen : (now : ℕ) (s t : MasterState) → t.gate.waiting ≡ s.gate.waiting → t.rights ≡ s.rights → ((c : ℕ) → seen_of (session_of t c) ≡ seen_of (session_of s c)) → Stays now s t
stays_seen now s t waiting rights seen = record {
  pending = λ x more. subst (λ (ws : List (Waiting Task)). 0 < touching x ws) (sym waiting) more;
  held = λ c x more free. ap (holds c x) rights ∙ free;
  over = λ c over. subst (IsOverAs now) (sym (seen c)) over;
}

-- ---- sessions

over_stepped : (now : ℕ) (step : Session Reply → Session Reply) → ((session : Session Reply) → (step session).live ≡ session.live) → ((session : Session Reply) → (step session).timeout ≡ session.timeout) → (o : Option (Session Reply)) → IsOverAs now (seen_of o) → IsOverAs now (seen_of (option_map step o))
over_stepped now step live timeout None over = over
over_stepped now step live timeout (Some session) over = (live session ∙ over.0, subst (λ (t : ℕ). t ≤ now) (sym (timeout session)) over.1)

over_with : (now : ℕ) (table : SessionTable Reply) (client : ℕ) (step : Session Reply → Session Reply) → ((session : Session Reply) → (step session).live ≡ session.live) → ((session : Session Reply) → (step session).timeout ≡ session.timeout) → (c : ℕ) → IsOverAs now (seen_of (session_in table c)) → IsOverAs now (seen_of (session_in (with_session table client step) c))
over_with now table client step live timeout c over = by_test (c == client)
    (λ own. subst (λ (z : ℕ). IsOverAs now (seen_of (session_in (with_session table z step) c))) (is_same c client own)
    (subst (λ (o : Option (Session Reply)). IsOverAs now (seen_of o)) (sym (own_session table c step)) (over_stepped now step live timeout (session_in table c) over)))
    (λ other. subst (λ (o : Option (Session Reply)). IsOverAs now (seen_of o)) (sym (other_session table client step c (is_other c client other))) over)

-- ---- what waits

more_waits : (x : List ℕ) (change : Pending Task) (s : MasterState) → 0 < touching x s.gate.waiting → 0 < touching x (s.gate.waiting ++ record { number = s.gate.pushed + 1; change = change } ∷ [])
more_waits x change s more = let p = (push_touches x change s.gate).1 in omega (arith, p, more)

pub queued_stays : (now : ℕ) (s : MasterState) (touched : List (List ℕ)) (task : Task) → Stays now s (queued s touched task)
queued_stays now s touched task = record {
  pending = λ x more. more_waits x (record { touched = touched; body = task }) s more;
  held = λ c x more free. free;
  over = λ c over. over;
}

asked_held : (c : ℕ) (x : List ℕ) (names : List (List ℕ)) (rights : List CacheRight) → holds c x (asked_for_all names rights) ≡ holds c x rights
asked_held c x [] rights = refl
asked_held c x (name ∷ names) rights = asked_held c x names (asked_back name rights) ∙ (asking_numbers_rights c name x rights).0

pub asking_stays : (now : ℕ) (s : MasterState) (names : List (List ℕ)) → Stays now s (asking_for s names)
asking_stays now s names = record {
  pending = λ x more. subst (λ (ws : List (Waiting Task)). 0 < touching x ws) (sym (asking_waiting names s)) more;
  held = λ c x more free. ap (holds c x) (asking_rights names s) ∙ asked_held c x names s.rights ∙ free;
  over = λ c over. subst (IsOverAs now) (sym (asking_seen names s c)) over;
}

-- ---- calls

recorded_stays : (now : ℕ) (s : MasterState) (client : ℕ) (kept : LastCall Reply) → Stays now s (recorded s client kept)
recorded_stays now s client kept = stays_seen now s (recorded s client kept) refl refl (λ c. seen_stays (keeping kept) (λ session. refl) s.sessions client c)

noted_stays : (now : ℕ) (s : MasterState) (note : Option HandleNote) → Stays now s (with_note s note)
noted_stays now s None = stays_same now s
noted_stays now s (Some note) = stays_seen now s (with_note s (Some note)) refl refl (λ c. refl)

waits_stays : (now : ℕ) (s : MasterState) (message : CallMessage) (touched : Option TouchedNames) → Stays now s (waits s message touched).0
waits_stays now s message touched =
    let kept : MasterState = recorded s message.client (record { number = message.number; reply = None }) in
    let called : MasterState = with_call s message touched in
    stays_on now s kept (asking_for called (names_of touched)) (recorded_stays now s message.client (record { number = message.number; reply = None }))
    (stays_on now kept called (asking_for called (names_of touched)) (queued_stays now kept (names_of touched) (tasks.Asked (task_of message))) (asking_stays now called (names_of touched)))

-- ---- a right is granted

not_touched : (u r : Bool) → (not u && r) ≡ true → u ≡ false
not_touched true r h = cc
not_touched false r h = refl

and_false : (a b : Bool) → a ≡ false → (a && b) ≡ false
and_false true b h = cc
and_false false b h = refl

none_of : (n : ℕ) → n ≡ 0 → 0 < n → ⊥
none_of n h k = omega (arith, h, k)

granting_stays : (now : ℕ) (s : MasterState) (client number : ℕ) (answer : CallResult) (name : List ℕ) → is_cachable s client name ≡ true → Stays now s (granting s client number answer name).0
granting_stays now s client number answer name may =
    let unpending : uncachable name s.gate.waiting ≡ false = not_touched (uncachable name s.gate.waiting) _ may in
    let idle : touching name s.gate.waiting ≡ 0 = (uncachable_is_touched name s.gate.waiting).1 unpending in
    record {
      pending = λ x more. more;
      held = λ c x more free. by_test (bytes_eq x name)
          (λ own. absurd (none_of (touching name s.gate.waiting) idle (subst (λ (y : List ℕ). 0 < touching y s.gate.waiting) (bytes_same x name own) more)))
          (λ other. ap (λ (r : SeenRight). r.held) (granted_to_another c x client name s.rights (and_false (bytes_eq x name) (c == client) other)) ∙ free);
      over = λ c over. subst (IsOverAs now) (sym (seen_stays (keeping (answered_by (stamped_reply s client number answer))) (λ session. refl) s.sessions client c)) over;
    }

-- ---- a Beat

ended_held : (client c : ℕ) (x : List ℕ) (ending : Ending) (rights : List CacheRight) → IsRecorded rights → holds c x rights ≡ false → holds c x (ended client ending rights) ≡ false
ended_held client c x ending rights recorded free =
    (ending_frees client c x ending rights recorded.once).0 ∙ and_false (holds c x rights) (not (client == c && is_ended_by ending (asked_for c x rights))) free

parked_stays : (now : ℕ) (s : MasterState) (beat : Beat) → IsRecorded s.rights → Stays now s (parked s beat)
parked_stays now s beat recorded = record {
  pending = λ x more. more;
  held = λ c x more free. ended_held beat.client c x (acknowledgement beat) s.rights recorded free;
  over = λ c over. over_with now s.sessions beat.client (beaten beat s.clock) (λ session. refl) (λ session. refl) c over;
}

-- ---- every message

pub taken_stays : (now : ℕ) (s : MasterState) (request : Request) → IsRecorded s.rights → (case : TakeCase s request) → Stays now s (taken_by s request case).0
taken_stays now s request recorded (StartQueued start is may serving room) =
    queued_stays now s [] (tasks.Asked (record { client = start.client; number = start.number; work = works.Starts start.principal s.clock }))
taken_stays now s request recorded (BeatParked beat is same taken) = parked_stays now s beat recorded
taken_stays now s request recorded (LeavesBeside message heard beside) = waits_stays now s message None
taken_stays now s request recorded (Recovering message new recovering) =
    recorded_stays now s message.client (answered_by (reply_of s message.client message.number (results.Refused faults.Recovering)))
taken_stays now s request recorded (Answered message note answer new serving answered) =
    let t : MasterState = with_note s note in
    stays_on now s t (replied t message.client message.number answer).0 (noted_stays now s note) (recorded_stays now t message.client (answered_by (reply_of t message.client message.number answer)))
taken_stays now s request recorded (Granted message note answer name new serving granted) =
    let t : MasterState = with_note s note in
    stays_on now s t (granting t message.client message.number answer name).0 (noted_stays now s note) (granting_stays now t message.client message.number answer name granted.cachable)
taken_stays now s request recorded (Waits message note touched new serving admitted) =
    let t : MasterState = with_note s note in
    stays_on now s t (waits t message touched).0 (noted_stays now s note) (waits_stays now t message touched)
taken_stays now s request recorded _ = stays_same now s

-- What a master takes leaves it beside its rows.
use Rattle.std.proofs.Common.{◌≡◌, ℕ, List, [], ◌∷◌, ◌++◌, Bool, true, false, cond, Option, Some, None, length, refl, sym, ap, ◌∙◌, subst, arith}
use Rattle.std.specs.Prelude.{◌+◌, ◌^◌, ◌≤◌, ◌<◌, ◌&&◌, ◌||◌, ◌==◌, not, max, nat_lt, nat_le, is_none, Result, Ok, Err, IfOk, OnErr}
use Rattle.std.specs.List.{list_all, list_any}
use Rattle.std.specs.Map.{lookup}
use Rattle.std.specs.BTreeMap.{is_at}
use Rattle.std.specs.Ordering.{nat_cmp}
use Rattle.std.proofs.lemmas.Bool.{and_parts, and_from}
use Rattle.std.proofs.lemmas.Bool.Decides.{nat_tests}
use Rattle.std.proofs.lemmas.List.Elements.{All-push}
use Rattle.collections.proofs.Keys.{number_same}
use Rattle.node_core.specs.Limits.{number_limit}
use Rattle.node_core.specs.declared.refusals.Fault.{Fault}
use Rattle.node_core.specs.declared.refusals.Fault.TheVariants as faults
use Rattle.rows_cell.specs.declared.tables.Rows.{Rows}
use Rattle.tags_cell.specs.declared.messages.beats.Beat.{Beat}
use Rattle.tags_cell.specs.declared.messages.outs.CallResult.{CallResult}
use Rattle.tags_cell.specs.declared.messages.outs.Reply.{Reply}
use Rattle.tags_cell.specs.declared.messages.requests.CallMessage.{CallMessage}
use Rattle.tags_cell.specs.declared.messages.requests.Request.{Request}
use Rattle.tags_cell.specs.declared.messages.calls.Call.{Call}
use Rattle.tags_cell.specs.declared.messages.calls.Call.TheVariants as calls
use Rattle.tags_cell.specs.Messages.{request_client, is_leave}
use Rattle.tags_cell.specs.Numbers.{is_client_number}
use Rattle.rights_core.specs.declared.cache_rights.CacheRight.{CacheRight}
use Rattle.rights_core.specs.declared.endings.Ending.{Ending}
use Rattle.rights_core.specs.declared.endings.Ending.TheVariants as endings
use Rattle.rights_core.specs.Rights.{holds, granted, invalidations_of, clients_to_ask, asked_back, ended, IsRecorded}
use Rattle.rights_core.specs.Laws.{asked_for}
use Rattle.rights_core.proofs.OneName.{asking_counts, clients_to_ask_hold, ending_frees}
use Rattle.rights_core.proofs.Recorded.{none_of}
use Rattle.rights_core.proofs.WholeList.{rights_are_recorded_once}
use Rattle.gate_core.specs.declared.pending.Pending.{Pending}
use Rattle.gate_core.specs.declared.pending.Waiting.{Waiting}
use Rattle.gate_core.specs.Gate.{IsOrderly}
use Rattle.session_core.specs.declared.records.LastCall.{LastCall}
use Rattle.session_core.specs.declared.records.Session.{Session}
use Rattle.session_core.specs.Session.{beat_fault, live_beat_fault, beaten, events_of, keeping}
use Rattle.session_core.specs.Sessions.{session_of, kept_of, is_live, has_spent_events, with_session}
use Rattle.session_core.specs.Laws.{issued_at}
use Rattle.session_core.proofs.IssuedBy.{rows_stay_issued}
use Rattle.session_core.proofs.RowsOfSessions.{rows_stay}
use Rattle.master_parts.specs.declared.handles.HandleNote.{HandleNote}
use Rattle.master_parts.specs.declared.pending.Taken.{Taken}
use Rattle.master_parts.specs.declared.pending.WaitingRequest.{WaitingRequest}
use Rattle.master_parts.specs.declared.pending.Task.{Task}
use Rattle.master_parts.specs.declared.pending.Task.TheVariants as tasks
use Rattle.master_parts.specs.declared.pending.Work.TheVariants as works
use Rattle.master_state.specs.State.{MasterState}
use Rattle.master_parts.specs.StoredSessions.{row_of, session_rows}
use Rattle.master_state.specs.Lookups.{is_full, acknowledgement, stamped_reply, noted}
use Rattle.cell_core.specs.Step.{queued, parked, recorded, with_right, granting, asking, asking_for, admission_of, admission_for, names_of, task_of, with_call, waits, take_step}
use Rattle.master_state.specs.Updates.{with_note}
use Rattle.master_parts.specs.Answered.{answered_by}
use Rattle.cell_core.specs.declared.asking.TouchedNames.{TouchedNames}
use Rattle.cell_core.specs.Names.{call_touched, names_touched}
use Rattle.cell_core.specs.Cases.{IsBehind, IsNew, IsBeside, IsAdmitted, TakeCase, taken_by}
use Rattle.cell_core.specs.Cases.TakeCase.{StartRefused, StartRecovering, StartFull, StartQueued, OldBeat, BeatRefused, BeatParked, OldEpoch, NoSession, LeftBefore, Repeated, OlderCall, Outstanding, LeavesBeside, Recovering, Answered, Granted, Waits}
use Rattle.cell_core.proofs.TakeCases.{taken_case, taken_unspent}
use Rattle.cell_core.proofs.Told.{touched_is_changed}
use Rattle.master_state.specs.CallsWaiting.{is_call}
use Rattle.over_core.specs.Kept.{IsKept, AreByBeats, AreIssued, AreOwned, AreTouching, AreOwnCalls, IsOwnCall, IsOwnTask, HaveOneCall, is_of, is_other_call, count_of, task_fits, outstanding, unanswered, waiting_fits}
use Rattle.over_core.proofs.EachSession.{step_each, step_without, issued_each, issued_without}
use Rattle.over_core.proofs.LocksKept.{locks_stay}
use Rattle.over_core.proofs.OneCall.{none_counts, none_at_all, one_same, one_recorded, one_started, one_called, one_open, one_beside}
use Rattle.over_core.proofs.OrderlyChanges.{orderly_more}
use Rattle.over_core.proofs.OwnCalls.{own_call}
use Rattle.over_core.proofs.OwnedRights.{owners_asked, owners_ended, owners_granted, issued_granted}
use Rattle.over_core.proofs.SessionReads.{lives_in, keeps_in, reads_step, reads_issued}

-- ---- who acknowledged an event did so by a Beat

abbrev pub IsByBeats : ℕ → Session Reply → Type 0
IsByBeats client session = 1 ≤ (events_of session).acknowledged → 1 ≤ session.newest_beat

abbrev pub IsIssued : List CacheRight → ℕ → Session Reply → Type 0
IsIssued rights client session = session.invalidations.issued ≡ invalidations_of client rights

abbrev pub HasNoRight : List CacheRight → ℕ → ℕ → Type 0
HasNoRight rights ended_below client = nat_lt client ended_below ≡ false → list_any (is_of client) rights ≡ false

newer : (number newest : ℕ) → nat_le number newest ≡ false → 1 ≤ number
newer number newest h = grind (arith, nat_tests)

unfaulted : (b : Bool) (fault : Fault) (others : Option Fault) → cond b (Some fault) others ≡ None → b ≡ false
unfaulted true fault others h = absurd (cc)
unfaulted false fault others h = refl

unless_faulted : (b : Bool) (o : Option Fault) (fault : Fault) → cond b o (Some fault) ≡ None → o ≡ None
unless_faulted true o fault h = h
unless_faulted false o fault h = absurd (cc)

-- a Beat that isn't refused has a number above that of the newest
beat_number : (o : Option (Session Reply)) (session : Session Reply) (beat : Beat) → o ≡ Some session → beat_fault o beat ≡ None → 1 ≤ beat.number
beat_number None session beat found h = absurd (cc)
beat_number (Some there) session beat found h =
    let live : live_beat_fault there beat ≡ None = unless_faulted there.live (live_beat_fault there beat) faults.NoSession h in
    newer beat.number there.newest_beat (unfaulted (nat_le beat.number there.newest_beat) faults.Repeat _ live)

-- ---- where what the rows hold is untouched

-- what the rows hold is the same, and what the master knows beside them fits
pub record Stays (s new : MasterState) : Type 0 where
  pub name : new.name ≡ s.name
  pub secret : new.secret ≡ s.secret
  pub epoch : new.epoch ≡ s.epoch
  pub next_instance : new.next_instance ≡ s.next_instance
  pub ended_below : new.ended_below ≡ s.ended_below
  pub nodes : new.nodes ≡ s.nodes
  pub sessions : session_rows new.sessions ≡ session_rows s.sessions
  pub locks : new.locks ≡ s.locks
  pub lives : (client : ℕ) → is_live s.sessions client ≡ true → is_live new.sessions client ≡ true
  pub one_call : HaveOneCall new
  pub waiting : waiting_fits new.gate.waiting ≡ true
  pub recovery_is_empty : new.recovering ≡ true → new.gate.waiting ≡ []
  pub by_beats : AreByBeats new.sessions
  pub recorded : IsRecorded new.rights
  pub issued : AreIssued new.sessions new.rights
  pub owned : AreOwned new.sessions new.ended_below new.rights
  pub orderly : IsOrderly new.gate
  pub touching : AreTouching new.secret new.gate.waiting
  pub own : AreOwnCalls new.secret new.gate.waiting

pub stays : (cell : List ℕ) (rows : Rows) (s new : MasterState) → IsKept cell rows s → Stays s new → IsKept cell rows new
stays cell rows s new k h = record {
  name = h.name ∙ k.name;
  secret = h.secret ∙ k.secret;
  epoch = h.epoch ∙ k.epoch;
  next_instance = h.next_instance ∙ k.next_instance;
  ended_below = h.ended_below ∙ k.ended_below;
  nodes = h.nodes ∙ k.nodes;
  sessions = h.sessions ∙ k.sessions;
  sound_rows = k.sound_rows;
  waiting = h.waiting;
  locks = locks_stay rows s new h.nodes h.locks h.lives k.locks;
  one_call = h.one_call;
  names_in_order = k.names_in_order;
  sessions_in_order = k.sessions_in_order;
  locks_in_order = k.locks_in_order;
  recovery_is_empty = h.recovery_is_empty;
  by_beats = h.by_beats;
  recorded = h.recorded;
  issued = h.issued;
  owned = h.owned;
  orderly = h.orderly;
  touching = h.touching;
  own = h.own;
}

all_push : {X : Type 0} (p : X → Bool) (xs : List X) (x : X) → list_all p xs ≡ true → p x ≡ true → list_all p (xs ++ x ∷ []) ≡ true
all_push p [] x h new = and_from (p x) true new refl
all_push p (y ∷ ys) x h new = let t = and_parts (p y) (list_all p ys) h in and_from (p y) (list_all p (ys ++ x ∷ [])) t.0 (all_push p ys x t.1 new)

-- ---- a session that was issued the next invalidation, where it was asked for a name

asked_issued : (b : Bool) (session : Session Reply) (count : ℕ) → session.invalidations.issued ≡ count → (issued_at (cond b (Some (count + 1)) None) session).invalidations.issued ≡ count + cond b 1 0
asked_issued true session count h = grind (arith, nat_tests, h)
asked_issued false session count h = omega (arith, h)

asked_by_beats : (o : Option ℕ) (client : ℕ) (session : Session Reply) → IsByBeats client session → IsByBeats client (issued_at o session)
asked_by_beats None client session h = h
asked_by_beats (Some number) client session h = h

same_lives : (o : Option ℕ) (before : Session Reply) → (issued_at o before).live ≡ before.live
same_lives None before = refl
same_lives (Some number) before = refl

same_calls : (o : Option ℕ) (before : Session Reply) → (issued_at o before).kept ≡ before.kept
same_calls None before = refl
same_calls (Some number) before = refl

-- ---- a new call

-- the end of a session waits for its turn, touches nothing, and is not answered before
leave_admits : (s : MasterState) (client number : ℕ) (call : Call) (sequencer : Option (List ℕ)) → is_leave call ≡ true → ((admission_of s client number call sequencer).answer ≡ None) × ((admission_of s client number call sequencer).touched ≡ None)
leave_admits s client number calls.Leave sequencer h = (refl, refl)
leave_admits s client number (calls.Open opening) sequencer h = cc
leave_admits s client number (calls.Close bytes) sequencer h = cc
leave_admits s client number (calls.Read bytes) sequencer h = cc
leave_admits s client number (calls.Stat bytes) sequencer h = cc
leave_admits s client number (calls.List bytes) sequencer h = cc
leave_admits s client number (calls.Set bytes content generation) sequencer h = cc
leave_admits s client number (calls.SetAcl bytes acls generation) sequencer h = cc
leave_admits s client number (calls.Delete bytes) sequencer h = cc
leave_admits s client number (calls.Acquire bytes mode) sequencer h = cc
leave_admits s client number (calls.TryAcquire bytes mode) sequencer h = cc
leave_admits s client number (calls.Release bytes) sequencer h = cc
leave_admits s client number (calls.GetSequencer bytes) sequencer h = cc
leave_admits s client number (calls.SetSequencer bytes) sequencer h = cc
leave_admits s client number (calls.CheckSequencer bytes) sequencer h = cc

-- none of the client's calls waits: its last call, if it made one, has its reply
answered_call : (o : Option (LastCall Reply)) (number : ℕ) → IsBehind o number → unanswered o ≡ 0
answered_call None number h = refl
answered_call (Some kept) number h = let is = h.1 in rw is refl

pub none_outstanding : (s : MasterState) (client number : ℕ) → IsBehind (kept_of s.sessions client) number → HaveOneCall s → outstanding s client ≡ 0
none_outstanding s client number h one =
    let n : ℕ = unanswered (kept_of s.sessions client) in
    let none : n ≡ 0 = answered_call (kept_of s.sessions client) number h in
    none_at_all client s.gate.waiting s.locks (none_counts (count_of is_call s.gate.waiting [] client) n (one.0 client) none) (none_counts (count_of is_other_call s.gate.waiting s.locks client) n (one.1 client) none)

-- ---- a note

-- a note changes nothing but the handles
pub unnoted : {X : Type 0} (f : MasterState → X) → ((s : MasterState) (note : HandleNote) → f (with_note s (Some note)) ≡ f s) → (s : MasterState) (note : Option HandleNote) → f (with_note s note) ≡ f s
unnoted f same s None = refl
unnoted f same s (Some note) = same s note

module _ (cell : List ℕ) (rows : Rows) where
  -- a step of one client's session that the rows don't tell
  pub stepped_kept : (s : MasterState) (client : ℕ) (step : Session Reply → Session Reply) → ((before : Session Reply) → row_of (step before) ≡ row_of before) → ((before : Session Reply) → (step before).invalidations.issued ≡ before.invalidations.issued) → ((before : Session Reply) → session_of s.sessions client ≡ Some before → IsByBeats client before → IsByBeats client (step before)) → ((before : Session Reply) → (step before).live ≡ before.live) → HaveOneCall (record s { sessions = with_session s.sessions client step }) → IsKept cell rows s → IsKept cell rows (record s { sessions = with_session s.sessions client step })
  stepped_kept s client step same issues keeps lives one k = stays cell rows s (record s { sessions = with_session s.sessions client step }) k (record {
    name = refl;
    secret = refl;
    epoch = refl;
    next_instance = refl;
    ended_below = refl;
    nodes = refl;
    sessions = rows_stay row_of s.sessions client step same;
    locks = refl;
    lives = λ q live. reads_step lives_in s.sessions client step lives q ∙ live;
    one_call = one;
    waiting = k.waiting;
    recovery_is_empty = k.recovery_is_empty;
    by_beats = step_each IsByBeats s.sessions client step keeps k.by_beats;
    recorded = k.recorded;
    issued = step_each (IsIssued s.rights) s.sessions client step (λ before there is. issues before ∙ is) k.issued;
    owned = step_without (HasNoRight s.rights s.ended_below) s.sessions client step k.owned;
    orderly = k.orderly;
    touching = k.touching;
    own = k.own;
  })

  -- a step that keeps the client's last call
  pub same_call_kept : (s : MasterState) (client : ℕ) (step : Session Reply → Session Reply) → ((before : Session Reply) → row_of (step before) ≡ row_of before) → ((before : Session Reply) → (step before).invalidations.issued ≡ before.invalidations.issued) → ((before : Session Reply) → session_of s.sessions client ≡ Some before → IsByBeats client before → IsByBeats client (step before)) → ((before : Session Reply) → (step before).live ≡ before.live) → ((before : Session Reply) → (step before).kept ≡ before.kept) → IsKept cell rows s
      → IsKept cell rows (record s { sessions = with_session s.sessions client step })
  same_call_kept s client step same issues keeps lives calls k =
      stepped_kept s client step same issues keeps lives (one_same s.gate.waiting s.locks s.sessions (with_session s.sessions client step) (λ q. reads_step keeps_in s.sessions client step calls q) k.one_call) k

  -- another last call of a client of which none waits
  pub recorded_kept : (s : MasterState) (client : ℕ) (kept : LastCall Reply) → outstanding s client ≡ 0 → IsKept cell rows s → IsKept cell rows (recorded s client kept)
  recorded_kept s client kept none k =
      stepped_kept s client (keeping kept) (λ before. refl) (λ before. refl) (λ before found h. h) (λ before. refl) (one_recorded s.gate.waiting s.locks s.sessions client kept none k.one_call) k

  -- what changes rights alone
  righted_kept : (s : MasterState) (rights : List CacheRight) → IsRecorded rights → ((client : ℕ) → invalidations_of client rights ≡ invalidations_of client s.rights) → ((client : ℕ) → session_of s.sessions client ≡ None → list_any (is_of client) rights ≡ list_any (is_of client) s.rights) → IsKept cell rows s → IsKept cell rows (record s { rights = rights })
  righted_kept s rights recorded issues owners k = stays cell rows s (record s { rights = rights }) k (record {
    name = refl;
    secret = refl;
    epoch = refl;
    next_instance = refl;
    ended_below = refl;
    nodes = refl;
    sessions = refl;
    locks = refl;
    lives = λ q live. live;
    one_call = k.one_call;
    waiting = k.waiting;
    recovery_is_empty = k.recovery_is_empty;
    by_beats = k.by_beats;
    recorded = recorded;
    issued = λ client session found. k.issued client session found ∙ sym (issues client);
    owned = λ client none new. owners client none ∙ k.owned client none new;
    orderly = k.orderly;
    touching = k.touching;
    own = k.own;
  })

  -- rights that end
  pub ended_kept : (s : MasterState) (client : ℕ) (ending : Ending) → IsKept cell rows s → IsKept cell rows (record s { rights = ended client ending s.rights })
  ended_kept s client ending k =
      righted_kept s (ended client ending s.rights) (rights_are_recorded_once client [] ending s.rights k.recorded).2.0 (λ q. (ending_frees client q [] ending s.rights k.recorded.once).2) (λ q none. owners_ended q client ending s.rights) k

  other_client : (s : MasterState) (client q : ℕ) → is_live s.sessions client ≡ true → session_of s.sessions q ≡ None → (q == client) ≡ false
  other_client s client q live none = (elim (q == client) as (λ b. (q == client) ≡ b → b ≡ false) [
    | true ↦ (λ same.
        let is : q ≡ client = number_same q client same in
        let absent : session_of s.sessions client ≡ None = rw is at none in
        let dead : is_live s.sessions client ≡ false = rw absent refl in
        absurd (cc))
    | false ↦ (λ differs. refl)
  ]) refl

  -- a right of a client that has a session
  right_kept : (s : MasterState) (client : ℕ) (name : List ℕ) → is_live s.sessions client ≡ true → IsKept cell rows s → IsKept cell rows (with_right s client name)
  right_kept s client name live k =
      righted_kept s (granted client name s.rights) (rights_are_recorded_once client name endings.Expiry s.rights k.recorded).0.0 (λ q. issued_granted q client name s.rights) (λ q none. owners_granted q client name s.rights (other_client s client q live none)) k

  parked_kept : (s : MasterState) (beat : Beat) → beat_fault (session_of s.sessions beat.client) beat ≡ None → IsKept cell rows s → IsKept cell rows (parked s beat)
  parked_kept s beat fits k =
      ended_kept (record s { sessions = with_session s.sessions beat.client (beaten beat s.clock) }) beat.client (acknowledgement beat)
      (same_call_kept s beat.client (beaten beat s.clock) (λ before. refl) (λ before. refl) (λ before found h acknowledged. beat_number (session_of s.sessions beat.client) before beat found fits) (λ before. refl) (λ before. refl) k)

  pub note_kept : (s : MasterState) (note : Option HandleNote) → IsKept cell rows s → IsKept cell rows (with_note s note)
  note_kept s None k = k
  note_kept s (Some note) k = stays cell rows s (with_note s (Some note)) k (record {
    name = refl;
    secret = refl;
    epoch = refl;
    next_instance = refl;
    ended_below = refl;
    nodes = refl;
    sessions = refl;
    locks = refl;
    lives = λ q live. live;
    one_call = k.one_call;
    waiting = k.waiting;
    recovery_is_empty = k.recovery_is_empty;
    by_beats = k.by_beats;
    recorded = k.recorded;
    issued = k.issued;
    owned = k.owned;
    orderly = k.orderly;
    touching = k.touching;
    own = k.own;
  })

  pub queued_kept : (s : MasterState) (touched : List (List ℕ)) (task : Task) → s.recovering ≡ false → is_full s ≡ false → nat_le number_limit s.gate.pushed ≡ false → touched ≡ names_touched s.secret task → IsOwnTask s.secret task → task_fits task ≡ true → HaveOneCall (queued s touched task) → IsKept cell rows s → IsKept cell rows (queued s touched task)
  queued_kept s touched task serving room spare names own in_range one k =
      let change : Pending Task = record { touched = touched; body = task } in
      let w : Waiting Task = record { number = s.gate.pushed + 1; change = change } in
      stays cell rows s (queued s touched task) k (record {
        name = refl;
        secret = refl;
        epoch = refl;
        next_instance = refl;
        ended_below = refl;
        nodes = refl;
        sessions = refl;
        locks = refl;
        lives = λ q live. live;
        one_call = one;
        waiting = all_push (λ (x : Waiting Task). task_fits x.change.body) s.gate.waiting w k.waiting in_range;
        recovery_is_empty = λ recovering. absurd (cc);
        by_beats = k.by_beats;
        recorded = k.recorded;
        issued = k.issued;
        owned = k.owned;
        orderly = orderly_more s.gate change room spare k.orderly;
        touching = All-push (λ (x : Waiting Task). x.change.touched ≡ names_touched s.secret x.change.body) s.gate.waiting w k.touching names;
        own = All-push (λ (x : Waiting Task). IsOwnTask s.secret x.change.body) s.gate.waiting w k.own own;
      })

  -- who holds the name is asked for it
  pub asked_kept : (s : MasterState) (name : List ℕ) → IsKept cell rows s → IsKept cell rows (asking s name)
  asked_kept s name k =
      let asked = clients_to_ask name s.rights in
      let once = k.recorded.once in
      let order = (clients_to_ask_hold 0 name s.rights once).1 in
      stays cell rows s (asking s name) k (record {
        name = refl;
        secret = refl;
        epoch = refl;
        next_instance = refl;
        ended_below = refl;
        nodes = refl;
        sessions = rows_stay_issued row_of (λ number before. refl) s.sessions asked;
        locks = refl;
        lives = λ q live. reads_issued lives_in asked s.sessions order same_lives q ∙ live;
        one_call = one_same s.gate.waiting s.locks s.sessions (asking s name).sessions (λ q. reads_issued keeps_in asked s.sessions order same_calls q) k.one_call;
        waiting = k.waiting;
        recovery_is_empty = k.recovery_is_empty;
        by_beats = issued_each IsByBeats IsByBeats asked s.sessions order (λ client before h. asked_by_beats (lookup (is_at (nat_cmp client)) asked) client before h) k.by_beats;
        recorded = (rights_are_recorded_once 0 name endings.Expiry s.rights k.recorded).1.0;
        issued = issued_each (IsIssued s.rights) (IsIssued (asked_back name s.rights)) asked s.sessions order (λ client before is.
            let found = (clients_to_ask_hold client name s.rights once).0 in
            ap (λ (o : Option ℕ). (issued_at o before).invalidations.issued) found
            ∙ asked_issued (holds client name s.rights && is_none (asked_for client name s.rights)) before (invalidations_of client s.rights) is
            ∙ sym (asking_counts client name s.rights once)) k.issued;
        owned = issued_without (HasNoRight (asked_back name s.rights) s.ended_below) asked s.sessions order (λ client none new. owners_asked client name s.rights ∙ k.owned client none new);
        orderly = k.orderly;
        touching = k.touching;
        own = k.own;
      })

  -- for one name after the other
  pub asking_kept : (s : MasterState) (names : List (List ℕ)) → IsKept cell rows s → IsKept cell rows (asking_for s names)
  asking_kept s [] k = k
  asking_kept s (name ∷ names) k = asking_kept (asking s name) names (asked_kept s name k)

  pub clock_kept : (s : MasterState) (clock : ℕ) → IsKept cell rows s → IsKept cell rows (record s { clock = clock })
  clock_kept s clock k = stays cell rows s (record s { clock = clock }) k (record {
    name = refl;
    secret = refl;
    epoch = refl;
    next_instance = refl;
    ended_below = refl;
    nodes = refl;
    sessions = refl;
    locks = refl;
    lives = λ q live. live;
    one_call = k.one_call;
    waiting = k.waiting;
    recovery_is_empty = k.recovery_is_empty;
    by_beats = k.by_beats;
    recorded = k.recorded;
    issued = k.issued;
    owned = k.owned;
    orderly = k.orderly;
    touching = k.touching;
    own = k.own;
  })

  client_of : (request other : Request) → request ≡ other → is_client_number (request_client request) ≡ true → is_client_number (request_client other) ≡ true
  client_of request other is h = let P : Request → Type 0 = λ r. is_client_number (request_client r) ≡ true in subst P is h

  -- a call that waits after its note
  waits_kept : (s : MasterState) (message : CallMessage) (note : Option HandleNote) (touched : Option TouchedNames) → s.recovering ≡ false → nat_le number_limit s.gate.pushed ≡ false → IsAdmitted s message note touched → is_client_number message.client ≡ true → is_live s.sessions message.client ≡ true → outstanding s message.client ≡ 0 → IsKept cell rows s → IsKept cell rows (waits (with_note s note) message touched).0
  waits_kept s message note touched serving spare admitted in_range live none k =
      let t = with_note s note in
      let client = message.client in
      let last : LastCall Reply = record { number = message.number; reply = None } in
      let before : MasterState = recorded t client last in
      let noted = note_kept s note k in
      let none_noted : outstanding t client ≡ 0 = unnoted (λ x. outstanding x client) (λ x n. refl) s note ∙ none in
      let live_noted : is_live t.sessions client ≡ true = unnoted (λ x. is_live x.sessions client) (λ x n. refl) s note ∙ live in
      let secret : t.secret ≡ s.secret = unnoted (λ x. x.secret) (λ x n. refl) s note in
      let names : names_of touched ≡ names_of (call_touched t.secret message.call) =
      ap names_of (admitted.is_touched ∙ touched_is_changed s client message.number message.call message.sequencer admitted.passes ∙ ap (λ x. call_touched x message.call) (sym secret)) in
      let Q : List ℕ → Type 0 = λ code. IsOwnCall code client (works.Calls message.call message.sequencer) in
      let own : Q t.secret = subst Q (sym secret) (own_call s client message.number message.call message.sequencer admitted.passes) in
      let one : HaveOneCall (with_call t message touched) = one_called t.gate.waiting t.locks t.sessions client last (t.gate.pushed + 1) (names_of touched) (task_of message) refl refl live_noted none_noted noted.one_call in
      asking_kept (with_call t message touched) (names_of touched)
      (queued_kept before (names_of touched) (tasks.Asked (task_of message)) (unnoted (λ x. x.recovering) (λ x n. refl) s note ∙ serving) admitted.room (unnoted (λ x. nat_le number_limit x.gate.pushed) (λ x n. refl) s note ∙ spare) names own in_range one
      (recorded_kept t client last none_noted noted))

  -- a call by which a client ends its session, whose last call may wait for a lock
  leaves_kept : (s : MasterState) (message : CallMessage) → IsBeside s message → nat_le number_limit s.gate.pushed ≡ false → is_client_number message.client ≡ true → is_live s.sessions message.client ≡ true → IsKept cell rows s → IsKept cell rows (waits s message None).0
  leaves_kept s message beside spare in_range live k =
      let client = message.client in
      let last : LastCall Reply = record { number = message.number; reply = None } in
      let before : MasterState = recorded s client last in
      let admits = leave_admits s client message.number message.call message.sequencer beside.leave in
      let passes : (admission_for s message).answer ≡ None = admits.0 in
      let names : names_of None ≡ names_of (call_touched s.secret message.call) = ap names_of (sym admits.1 ∙ touched_is_changed s client message.number message.call message.sequencer passes) in
      let own : IsOwnCall s.secret client (works.Calls message.call message.sequencer) = own_call s client message.number message.call message.sequencer passes in
      let one : HaveOneCall (with_call s message None) = one_beside s.gate.waiting s.locks s.sessions client last (s.gate.pushed + 1) [] (task_of message) refl refl live (ap not beside.leave) beside.alone k.one_call in
      queued_kept before [] (tasks.Asked (task_of message)) beside.serving beside.room spare names own in_range one
      (stepped_kept s client (keeping last) (λ b. refl) (λ b. refl) (λ b found h. h) (λ b. refl) (one_open s.gate.waiting s.locks s.sessions client last refl live k.one_call) k)

  -- a call that is answered at once
  answering_kept : (s : MasterState) (client : ℕ) (note : Option HandleNote) (last : LastCall Reply) → outstanding s client ≡ 0 → IsKept cell rows s → IsKept cell rows (recorded (with_note s note) client last)
  answering_kept s client note last none k = recorded_kept (with_note s note) client last (unnoted (λ x. outstanding x client) (λ x n. refl) s note ∙ none) (note_kept s note k)

  -- an answer that may be kept in a cache
  granting_kept : (s : MasterState) (message : CallMessage) (note : Option HandleNote) (answer : CallResult) (name : List ℕ) → is_live s.sessions message.client ≡ true → outstanding s message.client ≡ 0 → IsKept cell rows s → IsKept cell rows (granting (with_note s note) message.client message.number answer name).0
  granting_kept s message note answer name live none k =
      let t = with_note s note in
      recorded_kept (with_right t message.client name) message.client (answered_by (stamped_reply t message.client message.number answer)) (unnoted (λ x. outstanding x message.client) (λ x n. refl) s note ∙ none)
      (right_kept t message.client name (unnoted (λ x. is_live x.sessions message.client) (λ x n. refl) s note ∙ live) (note_kept s note k))

  none_of_new : (s : MasterState) (request : Request) (message : CallMessage) → IsNew s request message → IsKept cell rows s → outstanding s message.client ≡ 0
  none_of_new s request message new k = none_outstanding s message.client message.number new.behind k.one_call

  case_kept : (s : MasterState) (request : Request) (c : TakeCase s request) → nat_le number_limit s.gate.pushed ≡ false → IsKept cell rows s → is_client_number (request_client request) ≡ true → IsKept cell rows (taken_by s request c).0
  case_kept s request (StartRefused start is may) spare k in_range = k
  case_kept s request (StartRecovering start is may recovering) spare k in_range = k
  case_kept s request (StartFull start is may serving full) spare k in_range = k
  case_kept s request (StartQueued start is may serving room) spare k in_range =
      let started : WaitingRequest = record { client = start.client; number = start.number; work = works.Starts start.principal s.clock } in
      let task : Task = tasks.Asked started in
      queued_kept s [] task serving room spare refl tt (client_of request _ is in_range) (one_started s.gate.waiting s.locks s.sessions (record { number = s.gate.pushed + 1; change = record { touched = []; body = task } }) (λ q. refl) k.one_call) k
  case_kept s request (OldBeat beat is other) spare k in_range = k
  case_kept s request (BeatRefused beat fault is same refused) spare k in_range = k
  case_kept s request (BeatParked beat is same taken) spare k in_range = parked_kept s beat taken k
  case_kept s request (OldEpoch message is other) spare k in_range = k
  case_kept s request (NoSession message is same ended) spare k in_range = k
  case_kept s request (LeftBefore message kept request_is same_epoch ended is same) spare k in_range = k
  case_kept s request (Repeated message kept heard is same) spare k in_range = k
  case_kept s request (OlderCall message kept heard is less) spare k in_range = k
  case_kept s request (Outstanding message kept heard is more none) spare k in_range = k
  case_kept s request (LeavesBeside message heard beside) spare k in_range =
      leaves_kept s message beside spare (client_of request _ heard.is_call in_range) heard.live k
  case_kept s request (Recovering message new recovering) spare k in_range = recorded_kept s message.client _ (none_of_new s request message new k) k
  case_kept s request (Answered message note answer new serving answered) spare k in_range = answering_kept s message.client note _ (none_of_new s request message new k) k
  case_kept s request (Granted message note answer name new serving granted) spare k in_range = granting_kept s message note answer name new.heard.live (none_of_new s request message new k) k
  case_kept s request (Waits message note touched new serving admitted) spare k in_range =
      waits_kept s message note touched serving spare admitted (client_of request _ new.heard.is_call in_range) new.heard.live (none_of_new s request message new k) k

  take_kept : (s new : MasterState) (now : ℕ) (request : Request) (taken : Taken) → IsKept cell rows s → is_client_number (request_client request) ≡ true → take_step s now request ≡ Ok (new, taken) → IsKept cell rows new
  take_kept s new now request taken k in_range h =
      let c = taken_case s new now request taken h in
      let counts = none_of (nat_le number_limit s.gate.pushed || nat_le number_limit (length s.rights)) (has_spent_events s.sessions) (taken_unspent s new now request taken h) in
      let spare = (none_of (nat_le number_limit s.gate.pushed) (nat_le number_limit (length s.rights)) counts.0).0 in
      let is : new ≡ (taken_by (noted s now) request c.0).0 = ap (λ (p : MasterState × Taken). p.0) c.1 in
      let P : MasterState → Type 0 = IsKept cell rows in
      subst P (sym is) (case_kept (noted s now) request c.0 spare (clock_kept s (max s.clock now) k) in_range)

  pub taken_kept : (s new : MasterState) (now : ℕ) (request : Request) (result : Result Taken Fault) → IsKept cell rows s → is_client_number (request_client request) ≡ true → IfOk result (λ taken. take_step s now request ≡ Ok (new, taken)) → OnErr result (new ≡ s) → IsKept cell rows new
  taken_kept s new now request (Ok taken) k in_range ok err = take_kept s new now request taken k in_range ok
  taken_kept s new now request (Err fault) k in_range ok err = let P : MasterState → Type 0 = IsKept cell rows in subst P (sym err) k

pub client_is_number : (n m : ℕ) → m ≡ n → (1 ≤ m) × (m < 2 ^ 53) → is_client_number n ≡ true
client_is_number n m same range = grind (arith, nat_tests)

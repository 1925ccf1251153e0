-- Each message and each sweep leaves every right that is held of a live session, and asked for where a change waits on its name.
use Rattle.std.proofs.Common.{◌≡◌, ℕ, ◌+◌, List, [], ◌∷◌, ◌++◌, Bool, true, false, cond, Option, Some, None, Ok, Err, length, refl, sym, ap, subst, ◌∙◌, inl, inr}
use Rattle.std.specs.Prelude.{◌⊎◌, ◌&&◌, ◌||◌, not, nat_le}
use Rattle.std.specs.Option.{option_map_or}
use Rattle.std.proofs.lemmas.Bool.{and_parts, not-true}
use Rattle.std.proofs.lemmas.List.Folds.{list_any-append}
use Rattle.node_core.specs.Limits.{number_limit}
use Rattle.node_core.specs.Nodes.{with_parent}
use Rattle.node_core.specs.declared.refusals.Fault.TheVariants as faults
use Rattle.rows_cell.specs.declared.tables.Rows.{Rows}
use Rattle.tags_cell.specs.Messages.{request_client}
use Rattle.tags_cell.specs.Numbers.{is_client_number}
use Rattle.tags_cell.specs.declared.messages.outs.CallResult.{CallResult}
use Rattle.tags_cell.specs.declared.messages.outs.Reply.{Reply}
use Rattle.tags_cell.specs.declared.messages.requests.CallMessage.{CallMessage}
use Rattle.tags_cell.specs.declared.messages.requests.Request.{Request}
use Rattle.rights_core.specs.declared.endings.Ending.TheVariants as endings
use Rattle.gate_core.specs.declared.pending.Waiting.{Waiting}
use Rattle.gate_core.specs.Gate.{touches, uncachable, pending_limit, push_answer}
use Rattle.session_core.specs.declared.records.LastCall.{LastCall}
use Rattle.session_core.specs.declared.records.Parked.{Parked}
use Rattle.session_core.specs.declared.records.Session.{Session}
use Rattle.session_core.specs.Session.{prolonged, answered, unparked, keeping, session_until}
use Rattle.rights_core.specs.Rights as of_rights
use Rattle.session_core.specs.Session as of_session
use Rattle.session_core.specs.Sessions.{session_of, kept_of, is_live, with_session}
use Rattle.master_parts.specs.OpenHandles.{without_client}
use Rattle.lock_core.specs.declared.partings.Parting.{Parting}
use Rattle.lock_core.specs.declared.partings.Parting.TheVariants as partings
use Rattle.master_parts.specs.declared.handles.HandleNote.{HandleNote}
use Rattle.master_parts.specs.declared.notices.SessionEvent.{SessionEvent}
use Rattle.master_parts.specs.declared.pending.WaitingRequest.{WaitingRequest}
use Rattle.master_parts.specs.declared.pending.Orphan.{Orphan}
use Rattle.master_parts.specs.declared.pending.Task.{Task}
use Rattle.master_parts.specs.declared.pending.Task.TheVariants as tasks
use Rattle.master_parts.specs.declared.pending.Work.TheVariants as works
use Rattle.master_state.specs.State.{MasterState}
use Rattle.master_state.specs.Notices.{with_tellings}
use Rattle.master_state.specs.Partings.{ending_by}
use Rattle.tags_cell.specs.declared.messages.outs.CallResult.TheVariants as results
use Rattle.lock_core.specs.Locks.{lock_at}
use Rattle.lock_core.specs.Turns.{reopened}
use Rattle.master_state.specs.Lapses.{lapses_of, lapses_puts, lapses_replies}
use Rattle.master_state.specs.Replies.{kept_puts, puts_of, replies_to, turn_replies}
use Rattle.cell_core.specs.Outcomes.{left_put}
use Rattle.master_state.specs.Updates.{with_note, with_kept, with_locks, without_lock, retired}
use Rattle.master_state.specs.declared.updates.KeptPut.{KeptPut}
use Rattle.master_state.specs.declared.updates.LockPut.{LockPut}
use Rattle.cell_core.specs.declared.asking.TouchedNames.{TouchedNames}
use Rattle.cell_core.specs.Cases.{IsNew, IsAdmitted, TakeCase, taken_by}
use Rattle.cell_core.specs.Cases.TakeCase.{StartRefused, StartRecovering, StartFull, StartQueued, OldBeat, BeatRefused, BeatParked, OldEpoch, NoSession, LeftBefore, Repeated, OlderCall, Outstanding, LeavesBeside, Recovering, Answered, Granted, Waits}
use Rattle.cell_core.specs.Ephemerals.{spared_for, is_ok, may_tidy, next_idle}
use Rattle.cell_core.specs.Names.{call_touched}
use Rattle.cell_core.specs.Step.{queued, recorded, with_right, names_of, task_of, with_call}
use Rattle.cell_core.proofs.Told.{touched_is_changed}
use Rattle.over_core.specs.Kept.{IsKept, IsOwnCall, HaveOneCall, outstanding}
use Rattle.over_core.specs.SweepCase.{IsNextApplied, SweepCase, rest, ended, mapped, told as told_all, parted, left_reply, gone_change, gone_replies, swept_by}
use Rattle.over_core.specs.SweepCase.SweepCase.{Quiet, Recovers, Expires, Departed, AnswersBeat, TurnedAway, StartedAgain, Started, Reopens, Tidies, Spared, Tidied, OfEnded, Ended, Applied, Deleted, Locked, Awaited, Left}
use Rattle.over_core.proofs.KeptByApplications.{rest_kept}
use Rattle.over_core.proofs.KeptBySweeps.{begun_then, sessions_ordered}
use Rattle.over_core.proofs.Retired.{by_retiring, still_there}
use Rattle.rows_cell.proofs.EntriesInOrder.{sorted_put}
use Rattle.std.specs.Ordering.{nat_cmp}
use Rattle.std.specs.Cmp.{nat_cmp_total}
use Rattle.over_core.proofs.KeptByTakes.{unnoted, none_outstanding, recorded_kept, note_kept, queued_kept}
use Rattle.over_core.proofs.OneCall.{one_started, one_called}
use Rattle.over_core.proofs.OwnCalls.{own_call}
use Rattle.over_core.proofs.SessionReads.{lives_in}
use Rattle.over_core.proofs.ToldSessions.{reads_told}
use Rattle.master_laws.proofs.Answerable.{tally_in, retired_answerable, IsAnswerable, IsAlike, alike, alike_itself, alike_then, stepped_alike, asking_all_answerable, queued_answerable, right_answerable, parked_answerable, ended_answerable, begun_answerable}

-- ---- what changes neither rights nor tallies

pub noted_alike : (s : MasterState) (note : Option HandleNote) → IsAlike s (with_note s note)
noted_alike s None = alike_itself s
noted_alike s (Some note) = record { rights = refl; lives = λ client h. h; gate = λ name h. h; tallies = λ client. refl }

pub recorded_alike : (s : MasterState) (client : ℕ) (kept : LastCall Reply) → IsAlike s (recorded s client kept)
recorded_alike s client kept = stepped_alike s client (keeping kept) (λ before. refl) (λ before. refl)

pub puts_alike : (puts : List KeptPut) (s : MasterState) → IsAlike s (with_kept s puts)
puts_alike [] s = record { rights = refl; lives = λ client h. h; gate = λ name h. h; tallies = λ client. refl }
puts_alike (put ∷ puts) s =
    let here : MasterState = recorded s put.client put.kept in
    let t = puts_alike puts here in
    let first = recorded_alike s put.client put.kept in
    record {
      rights = refl;
      lives = λ client live. t.lives client (first.lives client live);
      gate = λ name waits. waits;
      tallies = λ client. t.tallies client ∙ first.tallies client;
    }

pub tellings_alike : (tellings : List SessionEvent) (s : MasterState) → IsAlike s (with_tellings s tellings)
tellings_alike tellings s = record {
  rights = refl;
  lives = λ client live. reads_told lives_in (λ event before. refl) tellings s.sessions client ∙ live;
  gate = λ name waits. waits;
  tallies = λ client. reads_told tally_in (λ event before. refl) tellings s.sessions client;
}

less_waits : (name : List ℕ) (all front back : List (Waiting Task)) (w : Waiting Task) → all ≡ front ++ w ∷ back → uncachable name (front ++ back) ≡ true → uncachable name all ≡ true
less_waits name all front back w is h =
    ap (uncachable name) is ∙ list_any-append (touches name) front (w ∷ back)
    ∙ among (uncachable name front) (touches name w) (uncachable name back) (sym (list_any-append (touches name) front back) ∙ h)
  where
    among : (a b c : Bool) → (a || c) ≡ true → (a || (b || c)) ≡ true
    among true b c h = refl
    among false true c h = refl
    among false false c h = h

pub rest_alike : (s : MasterState) (front back : List (Waiting Task)) (task : Task) → IsNextApplied s front task back → IsAlike s (rest s front back)
rest_alike s front back task turn = record { rights = refl; lives = λ client h. h; gate = λ name waits. less_waits name s.gate.waiting front back _ turn.waited waits; tallies = λ client. refl }

-- ---- a call that comes

pub client_of : (request other : Request) → request ≡ other → is_client_number (request_client request) ≡ true → is_client_number (request_client other) ≡ true
client_of request other is h = let P : Request → Type 0 = λ r. is_client_number (request_client r) ≡ true in subst P is h

unless : (a b : Bool) → (not a && b) ≡ true → a ≡ false
unless true b h = absurd (cc)
unless false b h = refl

module _ (cell : List ℕ) (rows : Rows) where
  pub none_of_new : (s : MasterState) (request : Request) (message : CallMessage) → IsNew s request message → IsKept cell rows s → outstanding s message.client ≡ 0
  none_of_new s request message new k = none_outstanding s message.client message.number new.behind k.one_call

  -- what waits stands beside its rows before anybody is asked
  pub with_call_kept : (s : MasterState) (message : CallMessage) (note : Option HandleNote) (touched : Option TouchedNames) → s.recovering ≡ false → nat_le number_limit s.gate.pushed ≡ false → IsAdmitted s message note touched → is_client_number message.client ≡ true → is_live s.sessions message.client ≡ true → outstanding s message.client ≡ 0 → IsKept cell rows s → IsKept cell rows (with_call (with_note s note) message touched)
  with_call_kept s message note touched serving spare admitted in_range live none k =
      let t = with_note s note in
      let client = message.client in
      let last : LastCall Reply = record { number = message.number; reply = None } in
      let before : MasterState = recorded t client last in
      let noted = note_kept cell rows s note k in
      let none_noted : outstanding t client ≡ 0 = unnoted (λ x. outstanding x client) (λ x n. refl) s note ∙ none in
      let live_noted : is_live t.sessions client ≡ true = unnoted (λ x. is_live x.sessions client) (λ x n. refl) s note ∙ live in
      let secret : t.secret ≡ s.secret = unnoted (λ x. x.secret) (λ x n. refl) s note in
      let names : names_of touched ≡ names_of (call_touched t.secret message.call) =
      ap names_of (admitted.is_touched ∙ touched_is_changed s client message.number message.call message.sequencer admitted.passes ∙ ap (λ x. call_touched x message.call) (sym secret)) in
      let Q : List ℕ → Type 0 = λ code. IsOwnCall code client (works.Calls message.call message.sequencer) in
      let own : Q t.secret = subst Q (sym secret) (own_call s client message.number message.call message.sequencer admitted.passes) in
      let one : HaveOneCall (with_call t message touched) = one_called t.gate.waiting t.locks t.sessions client last (t.gate.pushed + 1) (names_of touched) (task_of message) refl refl live_noted none_noted noted.one_call in
      queued_kept cell rows before (names_of touched) (tasks.Asked (task_of message)) (unnoted (λ x. x.recovering) (λ x n. refl) s note ∙ serving) admitted.room (unnoted (λ x. nat_le number_limit x.gate.pushed) (λ x n. refl) s note ∙ spare) names own in_range one
      (recorded_kept cell rows t client last none_noted noted)

  pub case_answerable : (s : MasterState) (request : Request) (c : TakeCase s request) → nat_le number_limit s.gate.pushed ≡ false → IsKept cell rows s → is_client_number (request_client request) ≡ true → IsAnswerable [] s → IsAnswerable [] (taken_by s request c).0
  case_answerable s request (StartRefused start is may) spare k in_range h = h
  case_answerable s request (StartRecovering start is may recovering) spare k in_range h = h
  case_answerable s request (StartFull start is may serving full) spare k in_range h = h
  case_answerable s request (StartQueued start is may serving room) spare k in_range h =
      queued_answerable s [] (tasks.Asked (record { client = start.client; number = start.number; work = works.Starts start.principal s.clock })) h
  case_answerable s request (OldBeat beat is other) spare k in_range h = h
  case_answerable s request (BeatRefused beat fault is same refused) spare k in_range h = h
  case_answerable s request (BeatParked beat is same taken) spare k in_range h = parked_answerable cell rows s beat taken k h
  case_answerable s request (OldEpoch message is other) spare k in_range h = h
  case_answerable s request (NoSession message is same ended) spare k in_range h = h
  case_answerable s request (LeftBefore message kept request_is same_epoch ended is same) spare k in_range h = h
  case_answerable s request (Repeated message kept heard is same) spare k in_range h = h
  case_answerable s request (OlderCall message kept heard is less) spare k in_range h = h
  case_answerable s request (Outstanding message kept heard is more none) spare k in_range h = h
  case_answerable s request (LeavesBeside message heard beside) spare k in_range h =
      let last : LastCall Reply = record { number = message.number; reply = None } in
      let before : MasterState = recorded s message.client last in
      queued_answerable before [] (tasks.Asked (task_of message)) (alike [] s before (recorded_alike s message.client last) h)
  case_answerable s request (Recovering message new recovering) spare k in_range h = alike [] s (recorded s message.client _) (recorded_alike s message.client _) h
  case_answerable s request (Answered message note answer new serving answered) spare k in_range h =
      let t = with_note s note in
      alike [] s (recorded t message.client _) (alike_then s t (recorded t message.client _) (noted_alike s note) (recorded_alike t message.client _)) h
  case_answerable s request (Granted message note answer name new serving granted) spare k in_range h =
      let t = with_note s note in
      let live : is_live t.sessions message.client ≡ true = unnoted (λ x. is_live x.sessions message.client) (λ x n. refl) s note ∙ new.heard.live in
      let free : uncachable name t.gate.waiting ≡ false = unless (uncachable name t.gate.waiting) _ granted.cachable in
      alike [] (with_right t message.client name) (recorded (with_right t message.client name) message.client _) (recorded_alike (with_right t message.client name) message.client _)
      (right_answerable t message.client name live free (alike [] s t (noted_alike s note) h))
  case_answerable s request (Waits message note touched new serving admitted) spare k in_range h =
      let t = with_note s note in
      let last : LastCall Reply = record { number = message.number; reply = None } in
      let before : MasterState = recorded t message.client last in
      asking_all_answerable cell rows (with_call t message touched) (names_of touched)
      (with_call_kept s message note touched serving spare admitted (client_of request _ new.heard.is_call in_range) new.heard.live (none_of_new s request message new k) k)
      (queued_answerable before (names_of touched) (tasks.Asked (task_of message)) (alike [] s before (alike_then s t before (noted_alike s note) (recorded_alike t message.client last)) h))

-- ---- an ephemeral node whose deletion is queued

where_some : {X : Type 0} (b : Bool) (o : Option X) (x : X) → cond b o None ≡ Some x → b ≡ true
where_some true o x h = refl
where_some false o x h = absurd cc

has_room : (full spent : Bool) (number : ℕ) → is_ok (cond full (Err faults.Busy) (cond spent (Err faults.Exhausted) (Ok number))) ≡ true → (full ≡ false) × (spent ≡ false)
has_room true spent number h = absurd cc
has_room false true number h = absurd cc
has_room false false number h = (refl, refl)

answered_lives : (lease now : ℕ) (session : Session Reply) → (answered lease now session).live ≡ session.live
answered_lives lease now session =
    elim session.parked as (λ o. (option_map_or (λ (beat : Parked). prolonged (now + lease) (unparked now session)) o session).live ≡ session.live) [ None ↦ refl | Some beat ↦ refl ]

answered_tally : (lease now : ℕ) (session : Session Reply) → (answered lease now session).invalidations ≡ session.invalidations
answered_tally lease now session =
    elim session.parked as (λ o. (option_map_or (λ (beat : Parked). prolonged (now + lease) (unparked now session)) o session).invalidations ≡ session.invalidations) [ None ↦ refl | Some beat ↦ refl ]

parting_ends : (parting : Parting) → (ending_by parting ≡ endings.Expiry) ⊎ (ending_by parting ≡ endings.Leave)
parting_ends partings.Expiry = inl refl
parting_ends partings.Leave = inr refl

-- what becomes of locks, of the map, and of what clients are told
pub same : (s new : MasterState) → new.rights ≡ s.rights → new.sessions ≡ s.sessions → new.gate ≡ s.gate → IsAlike s new
same s new rights sessions gate = record {
  rights = rights;
  lives = λ client live. ap (λ x. is_live x client) sessions ∙ live;
  gate = λ name waits. ap (λ g. uncachable name g.waiting) (sym gate) ∙ waits;
  tallies = λ client. ap (λ x. tally_in (session_of x client)) sessions;
}

ended_alike : (s : MasterState) (asked : WaitingRequest) (note : Option HandleNote) (answer : CallResult) → IsAlike s (ended s asked note answer)
ended_alike s asked note answer = alike_then s (recorded s asked.client _) (ended s asked note answer) (recorded_alike s asked.client _) (noted_alike (recorded s asked.client _) note)

module _ (cell : List ℕ) (rows : Rows) where
  pub idle_kept : (s : MasterState) (idle : Orphan) → next_idle s ≡ Some idle → IsKept cell rows s → IsKept cell rows (queued s (with_parent idle.name) (tasks.Tidies idle))
  idle_kept s idle due k =
      let may : may_tidy s ≡ true = where_some (may_tidy s) _ idle due in
      let t = and_parts (not s.recovering && nat_le (s.serving_from + spared_for) s.clock) (is_ok (push_answer s.gate)) may in
      let serving : s.recovering ≡ false = not-true s.recovering (and_parts (not s.recovering) (nat_le (s.serving_from + spared_for) s.clock) t.0).0 in
      let room = has_room (nat_le pending_limit (length s.gate.waiting)) (nat_le number_limit s.gate.pushed) (s.gate.pushed + 1) t.1 in
      let task : Task = tasks.Tidies idle in
      let names = with_parent idle.name in
      let w : Waiting Task = record { number = s.gate.pushed + 1; change = record { touched = names; body = task } } in
      queued_kept cell rows s names task serving room.0 room.1 refl tt refl (one_started s.gate.waiting s.locks s.sessions w (λ q. refl) k.one_call) k

  -- a session that ends, with its locks, and who is told of that
  parted_answerable : (parting : Parting) (s : MasterState) (client : ℕ) (puts : List LockPut) (replies : List Reply) → IsKept cell rows s → IsAnswerable [] s → IsAnswerable [] (told_all (with_locks (parted parting s client) puts) replies)
  parted_answerable parting s client puts replies k h =
      let gone : MasterState = record s { handles = without_client s.handles client; sessions = with_session s.sessions client of_session.ended; rights = of_rights.ended client (ending_by parting) s.rights } in
      let p = parted parting s client in
      let l = with_locks p puts in
      let told : IsAlike p (told_all l replies) = alike_then p l (told_all l replies) (same p l refl refl refl) (puts_alike (kept_puts replies) l) in
      alike [] gone (told_all l replies) (alike_then gone p (told_all l replies) (same gone p refl refl refl) told) (ended_answerable cell rows s client (ending_by parting) (parting_ends parting) k h)

  pub swept_answerable : (s : MasterState) (c : SweepCase s) → IsKept cell rows s → IsAnswerable [] s → IsAnswerable [] (swept_by s c).0
  swept_answerable s (Quiet none) k h = h
  swept_answerable s (Recovers recovering heard) k h = alike [] s (record s { recovering = false; serving_from = s.clock }) (same s (record s { recovering = false; serving_from = s.clock }) refl refl refl) h
  swept_answerable s (Expires client session due) k h = parted_answerable partings.Expiry s client (lapses_puts s (lapses_of partings.Expiry s client)) ([] ++ lapses_replies s (lapses_of partings.Expiry s client)) k h
  swept_answerable s (Departed front back asked call sequencer session turn work leave found live) k h =
      parted_answerable partings.Leave (rest s front back) asked.client (lapses_puts s (lapses_of partings.Leave s asked.client)) (left_reply s asked ∷ lapses_replies s (lapses_of partings.Leave s asked.client)) (rest_kept cell rows s k front back (tasks.Asked asked) turn) (alike [] s (rest s front back) (rest_alike s front back (tasks.Asked asked) turn) h)
  swept_answerable s (AnswersBeat client session beat due) k h =
      alike [] s (record s { sessions = with_session s.sessions client (answered s.sessions.lease s.clock) }) (stepped_alike s client (answered s.sessions.lease s.clock) (answered_lives s.sessions.lease s.clock) (answered_tally s.sessions.lease s.clock)) h
  swept_answerable s (TurnedAway front back asked principal received turn work may) k h = alike [] s (rest s front back) (rest_alike s front back (tasks.Asked asked) turn) h
  swept_answerable s (StartedAgain front back asked principal received session turn work found live) k h =
      let after : MasterState = record s { sessions = with_session s.sessions asked.client (prolonged (s.clock + s.sessions.lease)) } in
      alike [] s (rest after front back) (alike_then s (rest s front back) (rest after front back) (rest_alike s front back (tasks.Asked asked) turn) (stepped_alike (rest s front back) asked.client (prolonged (s.clock + s.sessions.lease)) (λ before. refl) (λ before. refl))) h
  swept_answerable s (Started front back asked principal received turn work none) k h =
      let new : Session Reply = session_until principal true (s.clock + s.sessions.lease) in
      let here : MasterState = begun_then s front back asked.client principal in
      let begun : IsAnswerable [] here = begun_answerable cell rows (rest s front back) asked.client principal (s.clock + s.sessions.lease) none (rest_kept cell rows s k front back (tasks.Asked asked) turn) (alike [] s (rest s front back) (rest_alike s front back (tasks.Asked asked) turn) h) in
      by_retiring s (λ o. IsAnswerable [] (retired here o)) begun
      (λ client gone. retired_answerable here client gone.session (still_there s client asked.client new gone none.0) gone.ended (sorted_put nat_cmp nat_cmp_total s.sessions.sessions asked.client new (sessions_ordered cell rows s k)) begun)
  swept_answerable s (Reopens instance due) k h =
      let l = with_locks s (puts_of s instance (reopened (lock_at s.locks instance)).lock) in
      alike [] s (told_all l (turn_replies s (reopened (lock_at s.locks instance)))) (alike_then s l (told_all l (turn_replies s (reopened (lock_at s.locks instance)))) (same s l refl refl refl) (puts_alike (kept_puts (turn_replies s (reopened (lock_at s.locks instance)))) l)) h
  swept_answerable s (Tidies idle due) k h =
      asking_all_answerable cell rows (queued s (with_parent idle.name) (tasks.Tidies idle)) (with_parent idle.name) (idle_kept s idle due.first_idle k) (queued_answerable s (with_parent idle.name) (tasks.Tidies idle) h)
  swept_answerable s (Spared front back idle turn held) k h = alike [] s (rest s front back) (rest_alike s front back (tasks.Tidies idle) turn) h
  swept_answerable s (Tidied front back idle turn still) k h =
      let r = rest s front back in
      let m = mapped r (gone_change s idle) in
      let t = told_all m (gone_replies s idle) in
      alike [] s (without_lock t (Some idle.instance)) (alike_then s r (without_lock t (Some idle.instance)) (rest_alike s front back (tasks.Tidies idle) turn) (alike_then r m (without_lock t (Some idle.instance)) (same r m refl refl refl) (alike_then m t (without_lock t (Some idle.instance)) (puts_alike (kept_puts (gone_replies s idle)) m) (same t (without_lock t (Some idle.instance)) refl refl refl)))) h
  swept_answerable s (OfEnded front back asked call sequencer turn work gone) k h = alike [] s (rest s front back) (rest_alike s front back (tasks.Asked asked) turn) h
  swept_answerable s (Ended front back asked call sequencer note answer turn work stays live made) k h =
      let r = rest s front back in
      alike [] s (ended r asked note answer) (alike_then s r (ended r asked note answer) (rest_alike s front back (tasks.Asked asked) turn) (ended_alike r asked note answer)) h
  swept_answerable s (Applied front back asked call sequencer note change answer turn work stays live made) k h =
      let r = rest s front back in
      let m = mapped r change in
      alike [] s (ended m asked note answer) (alike_then s r (ended m asked note answer) (rest_alike s front back (tasks.Asked asked) turn) (alike_then r m (ended m asked note answer) (same r m refl refl refl) (ended_alike m asked note answer))) h
  swept_answerable s (Deleted front back asked call sequencer change instance waiters answer turn work stays live made) k h =
      let r = rest s front back in
      let m = mapped r change in
      let e = ended m asked None answer in
      let t = told_all e (replies_to s (results.Refused faults.StaleInstance) waiters) in
      let l = without_lock t (Some instance) in
      alike [] s l (alike_then s r l (rest_alike s front back (tasks.Asked asked) turn) (alike_then r m l (same r m refl refl refl) (alike_then m e l (ended_alike m asked None answer) (alike_then e t l (puts_alike (kept_puts (replies_to s (results.Refused faults.StaleInstance) waiters)) e) (same t l refl refl refl))))) h
  swept_answerable s (Locked front back asked call sequencer put claim answer turn work stays live made) k h =
      let r = rest s front back in
      let l = with_locks r (put ∷ []) in
      alike [] s (ended l asked None answer) (alike_then s r (ended l asked None answer) (rest_alike s front back (tasks.Asked asked) turn) (alike_then r l (ended l asked None answer) (same r l refl refl refl) (ended_alike l asked None answer))) h
  swept_answerable s (Awaited front back asked call sequencer put turn work stays live made) k h =
      let r = rest s front back in
      let l = with_locks r (put ∷ []) in
      alike [] s l (alike_then s r l (rest_alike s front back (tasks.Asked asked) turn) (same r l refl refl refl)) h
  swept_answerable s (Left front back asked call sequencer note leave answer turn work stays live made) k h =
      let r = rest s front back in
      let l = with_locks r (left_put leave ∷ []) in
      let e = ended l asked note answer in
      let t = told_all e (turn_replies s leave.turn) in
      alike [] s t (alike_then s r t (rest_alike s front back (tasks.Asked asked) turn) (alike_then r l t (same r l refl refl refl) (alike_then l e t (ended_alike l asked note answer) (puts_alike (kept_puts (turn_replies s leave.turn)) e)))) h

-- What holds of each client's session after a message, and after a sweep.
use Rattle.std.proofs.Common.{◌≡◌, ℕ, ◌+◌, List, [], ◌∷◌, ◌++◌, true, false, cond, Option, Some, None, sym, subst}
use Rattle.std.specs.Prelude.{map, nat_le}
use Rattle.std.specs.Map.{lookup}
use Rattle.std.specs.BTreeMap.{is_at}
use Rattle.std.specs.Ordering.{nat_cmp}
use Rattle.node_core.specs.Limits.{number_limit}
use Rattle.node_core.specs.Nodes.{with_parent}
use Rattle.node_core.specs.declared.events.Event.{Event}
use Rattle.node_core.specs.declared.refusals.Fault.TheVariants as faults
use Rattle.lock_core.specs.declared.partings.Parting.TheVariants as partings
use Rattle.rows_cell.specs.declared.tables.SessionRow as stored
use Rattle.rows_cell.specs.declared.tables.Rows.{Rows}
use Rattle.tags_cell.specs.Messages.{request_client}
use Rattle.tags_cell.specs.Numbers.{is_client_number}
use Rattle.tags_cell.specs.declared.messages.beats.Beat.{Beat}
use Rattle.tags_cell.specs.declared.messages.outs.Reply.{Reply}
use Rattle.tags_cell.specs.declared.messages.requests.Request.{Request}
use Rattle.tags_cell.specs.declared.messages.requests.Request.TheVariants as requests
use Rattle.rights_core.specs.Rights.{clients_to_ask}
use Rattle.rights_core.proofs.OneName.{clients_to_ask_hold}
use Rattle.gate_core.specs.declared.pending.Waiting.{Waiting}
use Rattle.session_core.specs.declared.records.LastCall.{LastCall}
use Rattle.session_core.specs.declared.records.Parked.{Parked}
use Rattle.session_core.specs.declared.records.Session.{Session}
use Rattle.session_core.specs.Session.{beat_fault, beaten, keeping, answered, prolonged, session_until}
use Rattle.session_core.specs.Session as of_session
use Rattle.session_core.specs.Sessions.{session_of, with_session, with_new}
use Rattle.session_core.specs.Laws.{issued_at}
use Rattle.master_parts.specs.StoredSessions.{taken_over}
use Rattle.master_parts.specs.declared.handles.HandleNote.{HandleNote}
use Rattle.master_parts.specs.declared.notices.SessionEvent.{SessionEvent}
use Rattle.master_parts.specs.declared.pending.WaitingRequest.{WaitingRequest}
use Rattle.master_parts.specs.declared.pending.Task.{Task}
use Rattle.master_parts.specs.declared.pending.Task.TheVariants as tasks
use Rattle.master_parts.specs.declared.pending.Work.TheVariants as works
use Rattle.master_state.specs.State.{MasterState}
use Rattle.master_state.specs.Notices.{with_tellings}
use Rattle.tags_cell.specs.declared.messages.outs.CallResult.TheVariants as results
use Rattle.lock_core.specs.Locks.{lock_at}
use Rattle.lock_core.specs.Turns.{reopened}
use Rattle.master_state.specs.Lapses.{lapses_of, lapses_replies}
use Rattle.master_state.specs.Replies.{kept_puts, replies_to, turn_replies}
use Rattle.master_state.specs.Updates.{with_note, with_kept, with_locks}
use Rattle.master_state.specs.declared.updates.KeptPut.{KeptPut}
use Rattle.cell_core.specs.Cases.{TakeCase, taken_by}
use Rattle.cell_core.specs.Cases.TakeCase.{StartRefused, StartRecovering, StartFull, StartQueued, OldBeat, BeatRefused, BeatParked, OldEpoch, NoSession, LeftBefore, Repeated, OlderCall, Outstanding, LeavesBeside, Recovering, Answered, Granted, Waits}
use Rattle.cell_core.specs.Step.{queued, recorded, names_of, with_call, asking, asking_for}
use Rattle.cell_core.specs.Outcomes.{left_put}
use Rattle.over_core.specs.Kept.{IsKept}
use Rattle.over_core.specs.SweepCase.{IsNextApplied, IsDue, SweepCase, rest, ended, mapped, left_reply, gone_replies, swept_by}
use Rattle.over_core.specs.SweepCase.SweepCase.{Quiet, Recovers, Expires, Departed, AnswersBeat, TurnedAway, StartedAgain, Started, Reopens, Tidies, Spared, Tidied, OfEnded, Ended, Applied, Deleted, Locked, Awaited, Left}
use Rattle.over_core.proofs.EachSession.{Each, step_each, new_each, gone_each, issued_each}
use Rattle.over_core.proofs.KeptBySweeps.{sessions_ordered}
use Rattle.over_core.proofs.Retired.{by_retiring}
use Rattle.master_state.specs.Lookups.{IsUnused}
use Rattle.master_state.specs.Updates.{without_ended}
use Rattle.rows_cell.proofs.EntriesInOrder.{sorted_put}
use Rattle.std.specs.Cmp.{nat_cmp_total}
use Rattle.over_core.proofs.KeptByTakes.{asked_kept}
use Rattle.over_core.proofs.ToldSessions.{told_each}
use Rattle.master_laws.proofs.TimedCases.{IsInTime, IsTimed}
use Rattle.master_laws.proofs.AnswerableSteps.{with_call_kept, none_of_new, client_of, idle_kept}

-- it stays where a call is kept, an invalidation is issued, or an event is told
pub record IsCarried (P : ℕ → Session Reply → Type 0) : Type 0 where
  pub keeps : (client : ℕ) (kept : LastCall Reply) (before : Session Reply) → P client before → P client (keeping kept before)
  pub issues : (client : ℕ) (o : Option ℕ) (before : Session Reply) → P client before → P client (issued_at o before)
  pub tells : (client : ℕ) (event : Event) (before : Session Reply) → P client before → P client (of_session.told event before)

-- and where a Beat is taken
pub record IsCarriedByTakes (P : ℕ → Session Reply → Type 0) (s : MasterState) (request : Request) : Type 0 where
  pub carried : IsCarried P
  pub beats : (beat : Beat) (before : Session Reply) → request ≡ requests.Beat beat → session_of s.sessions beat.client ≡ Some before → beat_fault (session_of s.sessions beat.client) beat ≡ None → P beat.client before → P beat.client (beaten beat s.clock before)

-- and where a session ends, is prolonged or begins
pub record IsCarriedBySweeps (P : ℕ → Session Reply → Type 0) (s : MasterState) : Type 0 where
  pub carried : IsCarried P
  pub ends : (client : ℕ) (before : Session Reply) → P client before → P client (of_session.ended before)
  pub answers : (client : ℕ) (session : Session Reply) (beat : Parked) → IsDue s client session beat → IsInTime s session beat → P client session → P client (answered s.sessions.lease s.clock session)
  pub prolongs : (front back : List (Waiting Task)) (asked : WaitingRequest) (principal : List ℕ) (received : ℕ) (session : Session Reply) → IsNextApplied s front (tasks.Asked asked) back → asked.work ≡ works.Starts principal received → session_of s.sessions asked.client ≡ Some session → P asked.client session → P asked.client (prolonged (s.clock + s.sessions.lease) session)
  pub begins : (front back : List (Waiting Task)) (asked : WaitingRequest) (principal : List ℕ) (received : ℕ) → IsNextApplied s front (tasks.Asked asked) back → asked.work ≡ works.Starts principal received → IsUnused s asked.client → P asked.client (session_until principal true (s.clock + s.sessions.lease))

-- ---- the sessions of a master that comes up

pub each_taken : (P : ℕ → Session Reply → Type 0) (now : ℕ) → ((client : ℕ) (e : ℕ × stored.SessionRow) → P client (taken_over now e).1) → (es : List (ℕ × stored.SessionRow)) (client : ℕ) (session : Session Reply) → lookup (is_at (nat_cmp client)) (map (taken_over now) es) ≡ Some session → P client session
each_taken P now all [] client session h = absurd (cc)
each_taken P now all (e ∷ es) client session h =
    (elim (is_at (nat_cmp client) e.0) as (λ b. cond b (Some (taken_over now e).1) (lookup (is_at (nat_cmp client)) (map (taken_over now) es)) ≡ Some session → P client session) [
      | true ↦ (λ k. let same : (taken_over now e).1 ≡ session = cc in let Q : Session Reply → Type 0 = P client in subst Q same (all client e))
      | false ↦ (λ k. each_taken P now all es client session k)
    ]) h

-- ---- what leaves most of a session

pub each_recorded : (P : ℕ → Session Reply → Type 0) (s : MasterState) (client : ℕ) (kept : LastCall Reply) → IsCarried P → Each P s.sessions → Each P (recorded s client kept).sessions
each_recorded P s client kept c h = step_each P s.sessions client (keeping kept) (λ before there is. c.keeps client kept before is) h

pub each_kept : (P : ℕ → Session Reply → Type 0) (puts : List KeptPut) (s : MasterState) → IsCarried P → Each P s.sessions → Each P (with_kept s puts).sessions
each_kept P [] s c h = h
each_kept P (put ∷ puts) s c h = each_kept P puts (recorded s put.client put.kept) c (each_recorded P s put.client put.kept c h)

pub each_told : (P : ℕ → Session Reply → Type 0) (s : MasterState) (tellings : List SessionEvent) → IsCarried P → Each P s.sessions → Each P (with_tellings s tellings).sessions
each_told P s tellings c h = told_each P c.tells tellings s.sessions h

each_noted : (P : ℕ → Session Reply → Type 0) (s : MasterState) (note : Option HandleNote) → Each P s.sessions → Each P (with_note s note).sessions
each_noted P s None h = h
each_noted P s (Some note) h = h

pub each_asked : (P : ℕ → Session Reply → Type 0) (cell : List ℕ) (rows : Rows) (s : MasterState) (names : List (List ℕ)) → IsCarried P → IsKept cell rows s → Each P s.sessions → Each P (asking_for s names).sessions
each_asked P cell rows s [] c k h = h
each_asked P cell rows s (name ∷ names) c k h =
    let asked = clients_to_ask name s.rights in
    let order = (clients_to_ask_hold 0 name s.rights k.recorded.once).1 in
    each_asked P cell rows (asking s name) names c (asked_kept cell rows s name k) (issued_each P P asked s.sessions order (λ client before is. c.issues client (lookup (is_at (nat_cmp client)) asked) before is) h)

module _ (P : ℕ → Session Reply → Type 0) (cell : List ℕ) (rows : Rows) where
  pub each_by_case : (s : MasterState) (request : Request) (c : TakeCase s request) → IsCarriedByTakes P s request → nat_le number_limit s.gate.pushed ≡ false → IsKept cell rows s → is_client_number (request_client request) ≡ true → Each P s.sessions → Each P (taken_by s request c).0.sessions
  each_by_case s request (StartRefused start is may) t spare k in_range h = h
  each_by_case s request (StartRecovering start is may recovering) t spare k in_range h = h
  each_by_case s request (StartFull start is may serving full) t spare k in_range h = h
  each_by_case s request (StartQueued start is may serving room) t spare k in_range h = h
  each_by_case s request (OldBeat beat is other) t spare k in_range h = h
  each_by_case s request (BeatRefused beat fault is same refused) t spare k in_range h = h
  each_by_case s request (BeatParked beat is same taken) t spare k in_range h =
      step_each P s.sessions beat.client (beaten beat s.clock) (λ before there before_is. t.beats beat before is there taken before_is) h
  each_by_case s request (OldEpoch message is other) t spare k in_range h = h
  each_by_case s request (NoSession message is same ended) t spare k in_range h = h
  each_by_case s request (LeftBefore message kept request_is same_epoch ended is same) t spare k in_range h = h
  each_by_case s request (Repeated message kept heard is same) t spare k in_range h = h
  each_by_case s request (OlderCall message kept heard is less) t spare k in_range h = h
  each_by_case s request (Outstanding message kept heard is more none) t spare k in_range h = h
  each_by_case s request (LeavesBeside message heard beside) t spare k in_range h = each_recorded P s message.client _ t.carried h
  each_by_case s request (Recovering message new recovering) t spare k in_range h = each_recorded P s message.client _ t.carried h
  each_by_case s request (Answered message note answer new serving answered) t spare k in_range h = each_recorded P (with_note s note) message.client _ t.carried (each_noted P s note h)
  each_by_case s request (Granted message note answer name new serving granted) t spare k in_range h = each_recorded P (with_note s note) message.client _ t.carried (each_noted P s note h)
  each_by_case s request (Waits message note touched new serving admitted) t spare k in_range h =
      let n = with_note s note in
      let last : LastCall Reply = record { number = message.number; reply = None } in
      each_asked P cell rows (with_call n message touched) (names_of touched) t.carried
      (with_call_kept cell rows s message note touched serving spare admitted (client_of request _ new.heard.is_call in_range) new.heard.live (none_of_new cell rows s request message new k) k)
      (each_recorded P n message.client last t.carried (each_noted P s note h))

  pub each_by_sweep : (s : MasterState) (c : SweepCase s) → IsTimed s c → IsCarriedBySweeps P s → IsKept cell rows s → Each P s.sessions → Each P (swept_by s c).0.sessions
  each_by_sweep s (Quiet none) timed t k h = h
  each_by_sweep s (Recovers recovering heard) timed t k h = h
  each_by_sweep s (Expires client session due) timed t k h = each_kept P (kept_puts ([] ++ lapses_replies s (lapses_of partings.Expiry s client))) (record s { sessions = with_session s.sessions client of_session.ended }) t.carried (step_each P s.sessions client of_session.ended (λ before there is. t.ends client before is) h)
  each_by_sweep s (Departed front back asked call sequencer session turn work leave found live) timed t k h =
      each_kept P (kept_puts (left_reply s asked ∷ lapses_replies s (lapses_of partings.Leave s asked.client))) (record s { sessions = with_session s.sessions asked.client of_session.ended }) t.carried (step_each P s.sessions asked.client of_session.ended (λ before there is. t.ends asked.client before is) h)
  each_by_sweep s (AnswersBeat client session beat due) timed t k h = step_each P s.sessions client (answered s.sessions.lease s.clock) (λ before there is.
      let same : before ≡ session = let both = due.found in cc in
      let Q : Session Reply → Type 0 = λ x. P client (answered s.sessions.lease s.clock x) in
      let R : Session Reply → Type 0 = P client in
      subst Q (sym same) (t.answers client session beat due timed (subst R same is))) h
  each_by_sweep s (TurnedAway front back asked principal received turn work may) timed t k h = h
  each_by_sweep s (StartedAgain front back asked principal received session turn work found live) timed t k h = step_each P s.sessions asked.client (prolonged (s.clock + s.sessions.lease)) (λ before there is. t.prolongs front back asked principal received before turn work there is) h
  each_by_sweep s (Started front back asked principal received turn work none) timed t k h =
      let new : Session Reply = session_until principal true (s.clock + s.sessions.lease) in
      let begun = new_each P s.sessions asked.client new (t.begins front back asked principal received turn work none) h in
      let order = sessions_ordered cell rows s k in
      by_retiring s (λ o. Each P (without_ended (with_new s.sessions asked.client new) o)) begun
      (λ client gone. gone_each P (with_new s.sessions asked.client new) client (sorted_put nat_cmp nat_cmp_total s.sessions.sessions asked.client new order) begun)
  each_by_sweep s (Reopens instance due) timed t k h = each_kept P (kept_puts (turn_replies s (reopened (lock_at s.locks instance)))) s t.carried h
  each_by_sweep s (Tidies idle due) timed t k h = each_asked P cell rows (queued s (with_parent idle.name) (tasks.Tidies idle)) (with_parent idle.name) t.carried (idle_kept cell rows s idle due.first_idle k) h
  each_by_sweep s (Spared front back idle turn held) timed t k h = h
  each_by_sweep s (Tidied front back idle turn still) timed t k h = each_kept P (kept_puts (gone_replies s idle)) s t.carried h
  each_by_sweep s (OfEnded front back asked call sequencer turn work gone) timed t k h = h
  each_by_sweep s (Ended front back asked call sequencer note answer turn work stays live made) timed t k h = each_noted P (recorded (rest s front back) asked.client _) note (each_recorded P s asked.client _ t.carried h)
  each_by_sweep s (Applied front back asked call sequencer note change answer turn work stays live made) timed t k h = each_noted P (recorded (mapped (rest s front back) change) asked.client _) note (each_recorded P s asked.client _ t.carried h)
  each_by_sweep s (Deleted front back asked call sequencer change instance waiters answer turn work stays live made) timed t k h = each_kept P (kept_puts (replies_to s (results.Refused faults.StaleInstance) waiters)) (recorded s asked.client _) t.carried (each_recorded P s asked.client _ t.carried h)
  each_by_sweep s (Locked front back asked call sequencer put claim answer turn work stays live made) timed t k h = each_recorded P s asked.client _ t.carried h
  each_by_sweep s (Awaited front back asked call sequencer put turn work stays live made) timed t k h = h
  each_by_sweep s (Left front back asked call sequencer note leave answer turn work stays live made) timed t k h =
      let l = with_locks (rest s front back) (left_put leave ∷ []) in
      each_kept P (kept_puts (turn_replies s leave.turn)) (ended l asked note answer) t.carried (each_noted P (recorded l asked.client _) note (each_recorded P s asked.client _ t.carried h))

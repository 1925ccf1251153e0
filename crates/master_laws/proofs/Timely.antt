-- No session ends later than 60,002 ms after the last moment that the master was told, and nothing is kept of a later moment.
use Rattle.std.proofs.Common.{◌≡◌, ℕ, ◌+◌, ◌≤◌, List, [], ◌∷◌, ◌++◌, Bool, true, false, cond, Option, Some, None, refl, sym, ap, subst, ◌∙◌, inl, inr, arith}
use Rattle.std.specs.Prelude.{◌⊎◌, max}
use Rattle.std.specs.Option.{option_map_or, option_or}
use Rattle.node_core.specs.Nodes.{with_parent}
use Rattle.node_core.specs.declared.refusals.Fault.TheVariants as faults
use Rattle.lock_core.specs.declared.partings.Parting.TheVariants as partings
use Rattle.lease_core.specs.Lease.{longest_lease, recovery_timeout}
use Rattle.rows_cell.specs.declared.tables.SessionRow as stored
use Rattle.tags_cell.specs.declared.messages.beats.Beat.{Beat}
use Rattle.tags_cell.specs.declared.messages.outs.Reply.{Reply}
use Rattle.tags_cell.specs.declared.messages.requests.Request.{Request}
use Rattle.rights_core.specs.Rights.{clients_to_ask}
use Rattle.session_core.specs.declared.records.Mark.{Mark}
use Rattle.session_core.specs.declared.records.Parked.{Parked}
use Rattle.session_core.specs.declared.records.Session.{Session}
use Rattle.session_core.specs.Session.{answered, beaten, prolonged, unparked, marked, mark_at, holds_up, meets_its_mark, acknowledging, session_until}
use Rattle.session_core.specs.Session as of_session
use Rattle.session_core.specs.Sessions.{SessionTable, with_session, with_new}
use Rattle.session_core.specs.Laws.{issued_at}
use Rattle.session_core.proofs.IssuedBy.{lease_of_one, lease_stays_issued}
use Rattle.master_parts.specs.StoredSessions.{taken_over}
use Rattle.master_parts.specs.declared.handles.HandleNote.{HandleNote}
use Rattle.master_parts.specs.declared.pending.Task.TheVariants as tasks
use Rattle.master_state.specs.State.{MasterState}
use Rattle.master_state.specs.Lookups.{retiring}
use Rattle.master_state.specs.Updates.{without_ended, with_note, with_kept, with_locks}
use Rattle.master_state.specs.declared.updates.KeptPut.{KeptPut}
use Rattle.tags_cell.specs.declared.messages.outs.CallResult.TheVariants as results
use Rattle.lock_core.specs.Locks.{lock_at}
use Rattle.lock_core.specs.Turns.{reopened}
use Rattle.master_state.specs.Lapses.{lapses_of, lapses_replies}
use Rattle.master_state.specs.Replies.{kept_puts, replies_to, turn_replies}
use Rattle.cell_core.specs.Cases.{TakeCase, taken_by}
use Rattle.cell_core.specs.Cases.TakeCase.{StartRefused, StartRecovering, StartFull, StartQueued, OldBeat, BeatRefused, BeatParked, OldEpoch, NoSession, LeftBefore, Repeated, OlderCall, Outstanding, LeavesBeside, Recovering, Answered, Granted, Waits}
use Rattle.cell_core.specs.Step.{queued, recorded, names_of, with_call, asking, asking_for}
use Rattle.cell_core.specs.Outcomes.{left_put}
use Rattle.over_core.specs.SweepCase.{SweepCase, rest, ended, mapped, left_reply, gone_replies, swept_by}
use Rattle.over_core.specs.SweepCase.SweepCase.{Quiet, Recovers, Expires, Departed, AnswersBeat, TurnedAway, StartedAgain, Started, Reopens, Tidies, Spared, Tidied, OfEnded, Ended, Applied, Deleted, Locked, Awaited, Left}
use Rattle.master_laws.proofs.SessionSteps.{IsCarried, IsCarriedByTakes, IsCarriedBySweeps}

-- ---- the lease stays

lease_noted : (s : MasterState) (note : Option HandleNote) → (with_note s note).sessions.lease ≡ s.sessions.lease
lease_noted s None = refl
lease_noted s (Some note) = refl

lease_kept : (puts : List KeptPut) (s : MasterState) → (with_kept s puts).sessions.lease ≡ s.sessions.lease
lease_kept [] s = refl
lease_kept (put ∷ puts) s = lease_kept puts (recorded s put.client put.kept) ∙ lease_of_one s.sessions put.client (of_session.keeping put.kept)

lease_asked : (names : List (List ℕ)) (s : MasterState) → (asking_for s names).sessions.lease ≡ s.sessions.lease
lease_asked [] s = refl
lease_asked (name ∷ names) s = lease_asked names (asking s name) ∙ lease_stays_issued s.sessions (clients_to_ask name s.rights)

lease_recorded : (s : MasterState) (note : Option HandleNote) (client : ℕ) (step : Session Reply → Session Reply) → (with_session (with_note s note).sessions client step).lease ≡ s.sessions.lease
lease_recorded s note client step = lease_of_one (with_note s note).sessions client step ∙ lease_noted s note

pub lease_by_case : (s : MasterState) (request : Request) (c : TakeCase s request) → (taken_by s request c).0.sessions.lease ≡ s.sessions.lease
lease_by_case s request (StartRefused start is may) = refl
lease_by_case s request (StartRecovering start is may recovering) = refl
lease_by_case s request (StartFull start is may serving full) = refl
lease_by_case s request (StartQueued start is may serving room) = refl
lease_by_case s request (OldBeat beat is other) = refl
lease_by_case s request (BeatRefused beat fault is same refused) = refl
lease_by_case s request (BeatParked beat is same taken) = lease_of_one s.sessions beat.client (beaten beat s.clock)
lease_by_case s request (OldEpoch message is other) = refl
lease_by_case s request (NoSession message is same ended) = refl
lease_by_case s request (LeftBefore message kept request_is same_epoch ended is same) = refl
lease_by_case s request (Repeated message kept heard is same) = refl
lease_by_case s request (OlderCall message kept heard is less) = refl
lease_by_case s request (Outstanding message kept heard is more none) = refl
lease_by_case s request (LeavesBeside message heard beside) = lease_of_one s.sessions message.client _
lease_by_case s request (Recovering message new recovering) = lease_of_one s.sessions message.client _
lease_by_case s request (Answered message note answer new serving answered) = lease_recorded s note message.client _
lease_by_case s request (Granted message note answer name new serving granted) = lease_recorded s note message.client _
lease_by_case s request (Waits message note touched new serving admitted) = lease_asked (names_of touched) (with_call (with_note s note) message touched) ∙ lease_recorded s note message.client _

lease_retired : (table : SessionTable Reply) (gone : Option ℕ) → (without_ended table gone).lease ≡ table.lease
lease_retired table None = refl
lease_retired table (Some client) = refl

pub lease_by_sweep : (s : MasterState) (c : SweepCase s) → (swept_by s c).0.sessions.lease ≡ s.sessions.lease
lease_by_sweep s (Quiet none) = refl
lease_by_sweep s (Recovers recovering heard) = refl
lease_by_sweep s (Expires client session due) = lease_kept (kept_puts ([] ++ lapses_replies s (lapses_of partings.Expiry s client))) (record s { sessions = with_session s.sessions client of_session.ended }) ∙ lease_of_one s.sessions client of_session.ended
lease_by_sweep s (Departed front back asked call sequencer session turn work leave found live) = lease_kept (kept_puts (left_reply s asked ∷ lapses_replies s (lapses_of partings.Leave s asked.client))) (record s { sessions = with_session s.sessions asked.client of_session.ended }) ∙ lease_of_one s.sessions asked.client of_session.ended
lease_by_sweep s (AnswersBeat client session beat due) = lease_of_one s.sessions client _
lease_by_sweep s (TurnedAway front back asked principal received turn work may) = refl
lease_by_sweep s (StartedAgain front back asked principal received session turn work found live) = lease_of_one s.sessions asked.client _
lease_by_sweep s (Started front back asked principal received turn work none) = lease_retired (with_new s.sessions asked.client (session_until principal true (s.clock + s.sessions.lease))) (retiring s)
lease_by_sweep s (Reopens instance due) = lease_kept (kept_puts (turn_replies s (reopened (lock_at s.locks instance)))) s
lease_by_sweep s (Tidies idle due) = lease_asked (with_parent idle.name) (queued s (with_parent idle.name) (tasks.Tidies idle))
lease_by_sweep s (Spared front back idle turn held) = refl
lease_by_sweep s (Tidied front back idle turn still) = lease_kept (kept_puts (gone_replies s idle)) s
lease_by_sweep s (OfEnded front back asked call sequencer turn work gone) = refl
lease_by_sweep s (Ended front back asked call sequencer note answer turn work stays live made) = lease_noted (recorded (rest s front back) asked.client _) note ∙ lease_of_one s.sessions asked.client _
lease_by_sweep s (Applied front back asked call sequencer note change answer turn work stays live made) = lease_noted (recorded (mapped (rest s front back) change) asked.client _) note ∙ lease_of_one s.sessions asked.client _
lease_by_sweep s (Deleted front back asked call sequencer change instance waiters answer turn work stays live made) = lease_kept (kept_puts (replies_to s (results.Refused faults.StaleInstance) waiters)) (recorded s asked.client _) ∙ lease_of_one s.sessions asked.client _
lease_by_sweep s (Locked front back asked call sequencer put claim answer turn work stays live made) = lease_of_one s.sessions asked.client _
lease_by_sweep s (Awaited front back asked call sequencer put turn work stays live made) = refl
lease_by_sweep s (Left front back asked call sequencer note leave answer turn work stays live made) = lease_kept (kept_puts (turn_replies s leave.turn)) (ended (with_locks (rest s front back) (left_put leave ∷ [])) asked note answer) ∙ lease_noted (recorded (with_locks (rest s front back) (left_put leave ∷ [])) asked.client _) note ∙ lease_of_one s.sessions asked.client _

-- ---- and so does the clock

clock_noted : (s : MasterState) (note : Option HandleNote) → (with_note s note).clock ≡ s.clock
clock_noted s None = refl
clock_noted s (Some note) = refl

clock_asked : (names : List (List ℕ)) (s : MasterState) → (asking_for s names).clock ≡ s.clock
clock_asked [] s = refl
clock_asked (name ∷ names) s = clock_asked names (asking s name)

pub clock_by_case : (s : MasterState) (request : Request) (c : TakeCase s request) → (taken_by s request c).0.clock ≡ s.clock
clock_by_case s request (StartRefused start is may) = refl
clock_by_case s request (StartRecovering start is may recovering) = refl
clock_by_case s request (StartFull start is may serving full) = refl
clock_by_case s request (StartQueued start is may serving room) = refl
clock_by_case s request (OldBeat beat is other) = refl
clock_by_case s request (BeatRefused beat fault is same refused) = refl
clock_by_case s request (BeatParked beat is same taken) = refl
clock_by_case s request (OldEpoch message is other) = refl
clock_by_case s request (NoSession message is same ended) = refl
clock_by_case s request (LeftBefore message kept request_is same_epoch ended is same) = refl
clock_by_case s request (Repeated message kept heard is same) = refl
clock_by_case s request (OlderCall message kept heard is less) = refl
clock_by_case s request (Outstanding message kept heard is more none) = refl
clock_by_case s request (LeavesBeside message heard beside) = refl
clock_by_case s request (Recovering message new recovering) = refl
clock_by_case s request (Answered message note answer new serving answered) = clock_noted s note
clock_by_case s request (Granted message note answer name new serving granted) = clock_noted s note
clock_by_case s request (Waits message note touched new serving admitted) = clock_asked (names_of touched) (with_call (with_note s note) message touched) ∙ clock_noted s note

pub clock_by_sweep : (s : MasterState) (c : SweepCase s) → (swept_by s c).0.clock ≡ s.clock
clock_by_sweep s (Quiet none) = refl
clock_by_sweep s (Recovers recovering heard) = refl
clock_by_sweep s (Expires client session due) = refl
clock_by_sweep s (Departed front back asked call sequencer session turn work leave found live) = refl
clock_by_sweep s (AnswersBeat client session beat due) = refl
clock_by_sweep s (TurnedAway front back asked principal received turn work may) = refl
clock_by_sweep s (StartedAgain front back asked principal received session turn work found live) = refl
clock_by_sweep s (Started front back asked principal received turn work none) = refl
clock_by_sweep s (Reopens instance due) = refl
clock_by_sweep s (Tidies idle due) = clock_asked (with_parent idle.name) (queued s (with_parent idle.name) (tasks.Tidies idle))
clock_by_sweep s (Spared front back idle turn held) = refl
clock_by_sweep s (Tidied front back idle turn still) = refl
clock_by_sweep s (OfEnded front back asked call sequencer turn work gone) = refl
clock_by_sweep s (Ended front back asked call sequencer note answer turn work stays live made) = clock_noted (recorded (rest s front back) asked.client _) note
clock_by_sweep s (Applied front back asked call sequencer note change answer turn work stays live made) = clock_noted (recorded (mapped (rest s front back) change) asked.client _) note
clock_by_sweep s (Deleted front back asked call sequencer change instance waiters answer turn work stays live made) = refl
clock_by_sweep s (Locked front back asked call sequencer put claim answer turn work stays live made) = refl
clock_by_sweep s (Awaited front back asked call sequencer put turn work stays live made) = refl
clock_by_sweep s (Left front back asked call sequencer note leave answer turn work stays live made) = clock_noted (recorded (with_locks (rest s front back) (left_put leave ∷ [])) asked.client _) note

-- ---- moments

pub record IsTimely (clock client : ℕ) (session : Session Reply) : Type 0 where
  pub timeout : session.timeout ≤ clock + recovery_timeout
  pub marked : (mark : Mark) → session.mark ≡ Some mark → mark.since ≤ clock
  pub received : (beat : Parked) → session.parked ≡ Some beat → beat.received ≤ clock

pub later_timely : (from to client : ℕ) (session : Session Reply) → from ≤ to → IsTimely from client session → IsTimely to client session
later_timely from to client session le h = record {
  timeout = omega (arith, le, h.timeout);
  marked = λ mark is. omega (arith, le, h.marked mark is);
  received = λ beat is. omega (arith, le, h.received beat is);
}

timely_issued : (clock client : ℕ) (o : Option ℕ) (before : Session Reply) → IsTimely clock client before → IsTimely clock client (issued_at o before)
timely_issued clock client None before h = h
timely_issued clock client (Some number) before h = record { timeout = h.timeout; marked = h.marked; received = h.received }

pub timely_carried : (clock : ℕ) → IsCarried (IsTimely clock)
timely_carried clock = record {
  keeps = λ client kept before h. record { timeout = h.timeout; marked = h.marked; received = h.received };
  issues = timely_issued clock;
  tells = λ client event before h. record { timeout = h.timeout; marked = h.marked; received = h.received };
}

unmarked_or_same : (b : Bool) (o : Option Mark) (mark : Mark) → cond b None o ≡ Some mark → o ≡ Some mark
unmarked_or_same true o mark h = absurd (cc)
unmarked_or_same false o mark h = h

timely_beaten : (clock client : ℕ) (beat : Beat) (before : Session Reply) → IsTimely clock client before → IsTimely clock client (beaten beat clock before)
timely_beaten clock client beat before h = record {
  timeout = h.timeout;
  marked = λ mark is. h.marked mark (unmarked_or_same (meets_its_mark (acknowledging beat clock before)) before.mark mark is);
  received = λ parked is. let now : clock ≡ parked.received = cc in omega (arith, now);
}

pub timely_taken : (s : MasterState) (request : Request) → IsCarriedByTakes (IsTimely s.clock) s request
timely_taken s request = record { carried = timely_carried s.clock; beats = λ beat before is found fits h. timely_beaten s.clock beat.client beat before h }

-- the answer to a Beat that is parked
pub answered_is : (lease now : ℕ) (session : Session Reply) (beat : Parked) → session.parked ≡ Some beat → answered lease now session ≡ prolonged (now + lease) (unparked now session)
answered_is lease now session beat is = ap (λ (o : Option Parked). option_map_or (λ (b : Parked). prolonged (now + lease) (unparked now session)) o session) is

mark_then : (o : Option Mark) (b : Bool) (new mark : Mark) → option_or o (cond b (Some new) None) ≡ Some mark → (o ≡ Some mark) ⊎ (new ≡ mark)
mark_then (Some old) b new mark h = inl h
mark_then None true new mark h = inr (cc)
mark_then None false new mark h = absurd (cc)

longer : (timeout clock lease : ℕ) → timeout ≤ clock + 60002 → lease ≤ 60000 → max timeout (clock + lease) ≤ clock + 60002
longer timeout clock lease h k = omega (arith, h, k)

begins_in : (clock lease : ℕ) → lease ≤ 60000 → clock + lease ≤ clock + 60002
begins_in clock lease k = omega (arith, k)

timely_answered : (lease clock client : ℕ) (session : Session Reply) → lease ≤ longest_lease → IsTimely clock client session → IsTimely clock client (prolonged (clock + lease) (unparked clock session))
timely_answered lease clock client session fits h = record {
  timeout = longer session.timeout clock lease h.timeout fits;
  marked = λ mark is. elim (mark_then session.mark (holds_up session) (record { invalidations = session.invalidations.issued; since = clock }) mark is) [
    | inl old ↦ h.marked mark old
    | inr new ↦ let now : clock ≡ mark.since = ap (λ (m : Mark). m.since) new in omega (arith, now)
  ];
  received = λ beat is. absurd (cc);
}

pub timely_swept : (s : MasterState) → s.sessions.lease ≤ longest_lease → IsCarriedBySweeps (IsTimely s.clock) s
timely_swept s fits = record {
  carried = timely_carried s.clock;
  ends = λ client before h. record { timeout = h.timeout; marked = h.marked; received = h.received };
  answers = λ client session beat due timed h.
      let P : Session Reply → Type 0 = IsTimely s.clock client in
      subst P (sym (answered_is s.sessions.lease s.clock session beat due.is_parked)) (timely_answered s.sessions.lease s.clock client session fits h);
  prolongs = λ front back asked principal received session turn work found h. record { timeout = longer session.timeout s.clock s.sessions.lease h.timeout fits; marked = h.marked; received = h.received };
  begins = λ front back asked principal received turn work none. record { timeout = begins_in s.clock s.sessions.lease fits; marked = λ mark is. absurd (cc); received = λ beat is. absurd (cc) };
}

pub timely_up : (up client : ℕ) (e : ℕ × stored.SessionRow) → IsTimely up client (taken_over up e).1
timely_up up client e = record { timeout = omega arith; marked = λ mark is. absurd (cc); received = λ beat is. absurd (cc) }

-- What a sweep commits is sound, and leaves the master beside its rows.
use Rattle.std.proofs.Common.{◌≡◌, ℕ, List, [], ◌∷◌, Bool, true, false, cond, Option, Some, None, Result, Ok, Err, length, refl, sym, ◌∙◌, ap, subst, inl, inr, arith}
use Rattle.std.specs.Prelude.{◌⊎◌, ◌+◌, ◌≤◌, ◌&&◌, not, nat_le, max, if◌then◌else◌, IfOk, IfErr, OnOk, OnErr}
use Rattle.std.specs.Option.{option_map_or}
use Rattle.std.specs.List.Sorted.{IsStrictlySortedBy}
use Rattle.std.specs.Map.{keys_of}
use Rattle.std.specs.BTreeMap.{insert_entry}
use Rattle.std.specs.Ordering.{nat_cmp}
use Rattle.std.specs.Cmp.{nat_cmp_total}
use Rattle.std.proofs.lemmas.Bool.{and_parts, not-true}
use Rattle.std.proofs.lemmas.Bool.Decides.{nat_tests}
use Rattle.std.proofs.lemmas.Map.Made.{keys_of-map_values}
use Rattle.node_core.specs.declared.events.Event.{Event}
use Rattle.node_core.specs.declared.refusals.Fault.{Fault}
use Rattle.node_core.specs.declared.refusals.Fault.TheVariants as faults
use Rattle.node_core.specs.Limits.{number_limit}
use Rattle.node_core.specs.Nodes.{with_parent}
use Rattle.rows_cell.specs.declared.tables.SessionRow as stored
use Rattle.rows_cell.specs.declared.tables.Rows.{Rows}
use Rattle.rows_cell.specs.declared.tables.Edit.{Edit}
use Rattle.rows_cell.specs.declared.tables.Edit.TheVariants.{PutSession}
use Rattle.rows_cell.specs.Rows.{changed_rows}
use Rattle.rows_cell.specs.Sound.{sound, is_number}
use Rattle.rows_cell.specs.Stores.{Store}
use Rattle.rows_cell.proofs.EntriesInOrder.{sorted_put}
use Rattle.rows_cell.proofs.SoundChanges.{session_sound}
use Rattle.tags_cell.specs.Numbers.{is_client_number}
use Rattle.tags_cell.specs.declared.messages.calls.Call.{Call}
use Rattle.tags_cell.specs.declared.messages.outs.Reply.{Reply}
use Rattle.gate_core.specs.declared.pending.Waiting.{Waiting}
use Rattle.gate_core.specs.Gate.{pending_limit, push_answer}
use Rattle.session_core.specs.declared.records.Parked.{Parked}
use Rattle.session_core.specs.declared.records.Session.{Session}
use Rattle.session_core.specs.Session as of_session
use Rattle.session_core.specs.Session.{session_until, prolonged, answered, unparked}
use Rattle.session_core.specs.Sessions.{with_new, is_live}
use Rattle.session_core.proofs.RowsOfSessions.{rows_of-insert_entry}
use Rattle.master_parts.specs.declared.notices.SessionEvent.{SessionEvent}
use Rattle.master_state.specs.NameSpace.{name_space, caller}
use Rattle.master_state.specs.Notices.{with_tellings}
use Rattle.master_parts.specs.declared.pending.WaitingRequest.{WaitingRequest}
use Rattle.master_parts.specs.declared.pending.Orphan.{Orphan}
use Rattle.master_parts.specs.declared.pending.Task.{Task}
use Rattle.master_parts.specs.declared.pending.Task.TheVariants as tasks
use Rattle.master_parts.specs.declared.pending.Work.{Work}
use Rattle.master_parts.specs.declared.pending.Work.TheVariants as works
use Rattle.master_state.specs.State.{MasterState}
use Rattle.master_parts.specs.StoredSessions.{row_of}
use Rattle.master_state.specs.Lookups.{IsUnused, retiring, noted}
use Rattle.master_state.specs.declared.updates.LockPut.{LockPut}
use Rattle.master_state.specs.Updates.{with_locks, retired, retire_edits}
use Rattle.master_state.specs.Lapses.{lapses_of, lapses_puts, lapses_replies}
use Rattle.cell_core.specs.Step.{queued}
use Rattle.cell_core.specs.Ephemerals.{spared_for, is_ok, may_tidy, next_idle, tidied}
use Rattle.cell_core.specs.declared.effects.Effect.{Effect}
use Rattle.over_core.specs.declared.swept.Swept.{Swept}
use Rattle.cell_core.specs.Effect.{effect}
use Rattle.master_state.specs.CallsWaiting.{is_call}
use Rattle.tags_cell.specs.Messages.{is_leave}
use Rattle.over_core.specs.Kept.{IsKept, AreLocksKept, IsOwnCall, is_other_call, outstanding}
use Rattle.over_core.specs.Sweep.{action_edits, is_over, sweep_edits, sweep_step, beats_action, beats_step, IsSwept, IsHeldUp, sweep_frees}
use Rattle.over_core.specs.Plans.{first_action}
use Rattle.over_core.specs.SweepCase.{IsNextApplied, SweepCase, rest, swept_by, swept_edits, told, parted, parting_edits, left_reply}
use Rattle.over_core.specs.SweepCase.SweepCase.{Quiet, Recovers, Expires, Departed, AnswersBeat, TurnedAway, StartedAgain, Started, Reopens, Tidies, Spared, Tidied, OfEnded, Ended, Applied, Deleted, Locked, Awaited, Left}
use Rattle.over_core.proofs.FitsByEffects.{effect_fits}
use Rattle.over_core.proofs.EachSession.{new_each, new_without}
use Rattle.over_core.proofs.KeptByTakes.{IsByBeats, IsIssued, HasNoRight, stays, same_call_kept, queued_kept, asking_kept, clock_kept}
use Rattle.over_core.proofs.KeptByApplications.{application_client, application_own, rest_kept, tidied_application, ended_application, applied_application, deleted_application, locked_application, awaited_application, left_by_application, none_in_turn, still_quiet}
use Rattle.over_core.proofs.LockingFits.{EffectFits}
use Rattle.over_core.proofs.LocksKept.{locks_stay}
use Rattle.over_core.proofs.LocksSwept.{reopened_kept, waits_for_none, told_then_none, parted_kept, without_session_kept}
use Rattle.over_core.proofs.RepliesKept.{AreTo, lapses_replies_are_to}
use Rattle.over_core.proofs.OneCall.{one_same, one_started}
use Rattle.over_core.proofs.Retired.{by_retiring, still_there, retired_kept}
use Rattle.over_core.proofs.OwnedRights.{none_issued}
use Rattle.over_core.proofs.SessionReads.{lives_in, keeps_in, reads_new, lives_new}
use Rattle.over_core.proofs.SweepCases.{HasSessionsInOrder, action_tellings, first_tellings, sweep_case, swept_case, answered_case, rest_edits, rest_puts}
use Rattle.over_core.proofs.ToldSessions.{told_acknowledged, reads_told, told_each, told_without, rows_told}
use Rattle.lock_core.specs.declared.partings.Parting.TheVariants as partings

-- the sessions of a master stand in the order of those of its rows
pub sessions_ordered : (cell : List ℕ) (rows : Rows) (s : MasterState) → IsKept cell rows s → HasSessionsInOrder s
sessions_ordered cell rows s k =
    let P : List ℕ → Type 0 = IsStrictlySortedBy nat_cmp in
    let same : keys_of rows.sessions ≡ keys_of s.sessions.sessions =
    ap (λ (es : List (ℕ × stored.SessionRow)). keys_of es) (sym k.sessions) ∙ keys_of-map_values row_of s.sessions.sessions in
    subst P same k.sessions_in_order

-- ---- a Beat that is answered

answered_row : (lease now : ℕ) (session : Session Reply) → row_of (answered lease now session) ≡ row_of session
answered_row lease now session =
    elim session.parked as (λ o. row_of (option_map_or (λ (beat : Parked). prolonged (now + lease) (unparked now session)) o session) ≡ row_of session) [ None ↦ refl | Some beat ↦ refl ]

answered_by_beats : (lease now client : ℕ) (session : Session Reply) → IsByBeats client session → IsByBeats client (answered lease now session)
answered_by_beats lease now client session h =
    elim session.parked as (λ o. IsByBeats client (option_map_or (λ (beat : Parked). prolonged (now + lease) (unparked now session)) o session)) [ None ↦ h | Some beat ↦ h ]

answered_issued : (lease now : ℕ) (session : Session Reply) → (answered lease now session).invalidations.issued ≡ session.invalidations.issued
answered_issued lease now session =
    elim session.parked as (λ o. (option_map_or (λ (beat : Parked). prolonged (now + lease) (unparked now session)) o session).invalidations.issued ≡ session.invalidations.issued) [ None ↦ refl | Some beat ↦ refl ]

answered_lives : (lease now : ℕ) (session : Session Reply) → (answered lease now session).live ≡ session.live
answered_lives lease now session =
    elim session.parked as (λ o. (option_map_or (λ (beat : Parked). prolonged (now + lease) (unparked now session)) o session).live ≡ session.live) [ None ↦ refl | Some beat ↦ refl ]

answered_keeps : (lease now : ℕ) (session : Session Reply) → (answered lease now session).kept ≡ session.kept
answered_keeps lease now session =
    elim session.parked as (λ o. (option_map_or (λ (beat : Parked). prolonged (now + lease) (unparked now session)) o session).kept ≡ session.kept) [ None ↦ refl | Some beat ↦ refl ]

-- ---- a session that begins

stored_number : (n : ℕ) → is_client_number n ≡ true → is_number n ≡ true
stored_number n h = grind (arith, nat_tests)

none_of : {P : Type 0} → 1 ≤ 0 → P
none_of h = absurd (omega arith)

-- the master once it has begun
abbrev pub begun_then : MasterState → List (Waiting Task) → List (Waiting Task) → ℕ → List ℕ → MasterState
begun_then s front back client principal = rest (record s { sessions = with_new s.sessions client (session_until principal true (s.clock + s.sessions.lease)) }) front back

-- ---- the deletion of an ephemeral node that is queued

where_some : {X : Type 0} (b : Bool) (o : Option X) (x : X) → cond b o None ≡ Some x → b ≡ true
where_some true o x h = refl
where_some false o x h = absurd cc

has_room : (full spent : Bool) (number : ℕ) → is_ok (cond full (Err faults.Busy) (cond spent (Err faults.Exhausted) (Ok number))) ≡ true → (full ≡ false) × (spent ≡ false)
has_room true spent number h = absurd cc
has_room false true number h = absurd cc
has_room false false number h = (refl, refl)

module _ (cell : List ℕ) (rows : Rows) where
  -- no recovery goes on, and there is room for one more change
  tidies_kept : (s : MasterState) (idle : Orphan) → next_idle s ≡ Some idle → IsKept cell rows s → IsKept cell rows (tidied s idle)
  tidies_kept s idle due k =
      let may : may_tidy s ≡ true = where_some (may_tidy s) _ idle due in
      let t = and_parts (not s.recovering && nat_le (s.serving_from + spared_for) s.clock) (is_ok (push_answer s.gate)) may in
      let serving : s.recovering ≡ false = not-true s.recovering (and_parts (not s.recovering) (nat_le (s.serving_from + spared_for) s.clock) t.0).0 in
      let room = has_room (nat_le pending_limit (length s.gate.waiting)) (nat_le number_limit s.gate.pushed) (s.gate.pushed + 1) t.1 in
      let task : Task = tasks.Tidies idle in
      let names = with_parent idle.name in
      let w : Waiting Task = record { number = s.gate.pushed + 1; change = record { touched = names; body = task } } in
      asking_kept cell rows (queued s names task) names
      (queued_kept cell rows s names task serving room.0 room.1 refl tt refl (one_started s.gate.waiting s.locks s.sessions w (λ q. refl) k.one_call) k)

  -- its client was granted nothing, and waits for nothing
  begun_kept : (s : MasterState) (client : ℕ) (principal : List ℕ) (timeout : ℕ) → IsUnused s client → is_number client ≡ true → IsKept cell rows s → IsKept cell (changed_rows rows (PutSession client (record { principal = principal; live = true }) ∷ [])) (record s { sessions = with_new s.sessions client (session_until principal true timeout) })
  begun_kept s client principal timeout none number k =
      let new : Session Reply = session_until principal true timeout in
      let put : stored.SessionRow = record { principal = principal; live = true } in
      let locks : AreLocksKept rows (record s { sessions = with_new s.sessions client new }) = locks_stay rows s (record s { sessions = with_new s.sessions client new }) refl refl (lives_new s.sessions client new refl) k.locks in
      record {
        name = k.name;
        secret = k.secret;
        epoch = k.epoch;
        next_instance = k.next_instance;
        ended_below = k.ended_below;
        nodes = k.nodes;
        sessions = rows_of-insert_entry row_of s.sessions.sessions client new ∙ ap (λ (es : List (ℕ × stored.SessionRow)). insert_entry nat_cmp es client put) k.sessions;
        sound_rows = session_sound cell rows client principal k.sound_rows number;
        waiting = k.waiting;
        locks = record { generations = locks.generations; rows_of_locks = locks.rows_of_locks; in_order = locks.in_order; each = locks.each };
        one_call = one_same s.gate.waiting s.locks s.sessions (with_new s.sessions client new) (reads_new keeps_in s.sessions client new none.0 refl) k.one_call;
        names_in_order = k.names_in_order;
        sessions_in_order = sorted_put nat_cmp nat_cmp_total rows.sessions client put k.sessions_in_order;
        locks_in_order = k.locks_in_order;
        recovery_is_empty = k.recovery_is_empty;
        by_beats = new_each IsByBeats s.sessions client new (λ some. none_of some) k.by_beats;
        recorded = k.recorded;
        issued = new_each (IsIssued s.rights) s.sessions client new (sym (none_issued client s.rights (k.owned client none.0 none.1))) k.issued;
        owned = new_without (HasNoRight s.rights s.ended_below) s.sessions client new k.owned;
        orderly = k.orderly;
        touching = k.touching;
        own = k.own;
      }

  -- the first session goes that has ended, where too many are known
  then_retired : (s : MasterState) (front back : List (Waiting Task)) (asked : WaitingRequest) (principal : List ℕ) → IsNextApplied s front (tasks.Asked asked) back → IsKept cell rows s → IsUnused s asked.client
      → IsKept cell (changed_rows rows (PutSession asked.client (record { principal = principal; live = true }) ∷ [])) (begun_then s front back asked.client principal)
      → IsKept cell (changed_rows rows (PutSession asked.client (record { principal = principal; live = true }) ∷ retire_edits s.ended_below (retiring s))) (retired (begun_then s front back asked.client principal) (retiring s))
  then_retired s front back asked principal turn k none begun =
      let new : Session Reply = session_until principal true (s.clock + s.sessions.lease) in
      let put : Edit = PutSession asked.client (record { principal = principal; live = true }) in
      let there : Rows = changed_rows rows (put ∷ []) in
      let here : MasterState = begun_then s front back asked.client principal in
      by_retiring s (λ o. IsKept cell (changed_rows rows (put ∷ retire_edits s.ended_below o)) (retired here o)) begun
      (λ client gone.
      retired_kept cell there here client gone.session (still_there s client asked.client new gone none.0) gone.ended (sessions_ordered cell there here begun) begun
      (still_quiet cell rows s k front back (tasks.Asked asked) turn client gone.quiet))

  -- ---- every arm

  -- what a call that waited does fits
  application_fits : (s : MasterState) → IsKept cell rows s → (front back : List (Waiting Task)) (asked : WaitingRequest) (call : Call) (sequencer : Option (List ℕ)) (effected : Effect) → IsNextApplied s front (tasks.Asked asked) back → asked.work ≡ works.Calls call sequencer → is_live s.sessions asked.client ≡ true → effect (name_space s) (caller s asked.client) s.clock asked.number call sequencer ≡ effected → EffectFits rows s asked.client effected
  application_fits s k front back asked call sequencer effected turn work live made =
      let P : Effect → Type 0 = EffectFits rows s asked.client in
      let Q : Work → Type 0 = IsOwnCall s.secret asked.client in
      subst P made (effect_fits cell rows s k asked.client asked.number call sequencer live (application_client cell rows s k front back asked turn) (subst Q work (application_own cell rows s k front back asked turn)))

  -- it doesn't end the session
  other_call : (asked : WaitingRequest) (call : Call) (sequencer : Option (List ℕ)) → asked.work ≡ works.Calls call sequencer → is_leave call ≡ false → is_other_call asked.work ≡ true
  other_call asked call sequencer work stays = ap is_other_call work ∙ ap not stays

  pub case_kept : (s : MasterState) (c : SweepCase s) → IsKept cell rows s → IsKept cell (changed_rows rows (swept_edits s c)) (swept_by s c).0
  case_kept s (Quiet none) k = k
  case_kept s (Recovers recovering heard) k = stays cell rows s (record s { recovering = false; serving_from = s.clock }) k (record {
    name = refl;
    secret = refl;
    epoch = refl;
    next_instance = refl;
    ended_below = refl;
    nodes = refl;
    sessions = refl;
    locks = refl;
    lives = λ q live. live;
    one_call = k.one_call;
    waiting = k.waiting;
    recovery_is_empty = λ never. absurd (cc);
    by_beats = k.by_beats;
    recorded = k.recorded;
    issued = k.issued;
    owned = k.owned;
    orderly = k.orderly;
    touching = k.touching;
    own = k.own;
  })
  case_kept s (Expires client session due) k = without_session_kept partings.Expiry cell rows s k client session due.found [] tt
  case_kept s (Departed front back asked call sequencer session turn work leave found live) k =
      let beside = rest_kept cell rows s k front back (tasks.Asked asked) turn in
      let t = rest s front back in
      let lapses = lapses_of partings.Leave s asked.client in
      let replies : List Reply = left_reply s asked ∷ lapses_replies s lapses in
      let P : List Edit → List LockPut → Type 0 = λ edits puts. IsKept cell (changed_rows rows edits) (told (with_locks (parted partings.Leave t asked.client) puts) replies) in
      let edits = parting_edits partings.Leave t asked.client session.principal in
      let Q : ℕ → Type 0 = λ q. outstanding (with_locks (parted partings.Leave t asked.client) (lapses_puts t lapses)) q ≡ 0 in
      let own : Q asked.client = waits_for_none partings.Leave cell rows t beside asked.client session found (none_in_turn cell rows s k front back asked turn (ap is_call work)) in
      let others : AreTo Q (lapses_replies s lapses) =
      lapses_replies_are_to Q s lapses (λ q some quiet. told_then_none partings.Leave cell rows t beside asked.client session found q some (still_quiet cell rows s k front back (tasks.Asked asked) turn q quiet)) in
      let there : P edits (lapses_puts t lapses) = parted_kept partings.Leave cell rows t beside asked.client session found replies (own, others) in
      let put : P edits (lapses_puts s lapses) = subst (P edits) (rest_puts s front back lapses) there in
      subst (λ e. P e (lapses_puts s lapses)) (rest_edits s front back asked.client session.principal) put
  case_kept s (AnswersBeat client session beat due) k =
      same_call_kept cell rows s client (answered s.sessions.lease s.clock) (answered_row s.sessions.lease s.clock) (answered_issued s.sessions.lease s.clock) (λ before there. answered_by_beats s.sessions.lease s.clock client before) (answered_lives s.sessions.lease s.clock) (answered_keeps s.sessions.lease s.clock) k
  case_kept s (TurnedAway front back asked principal received turn work may) k = rest_kept cell rows s k front back (tasks.Asked asked) turn
  case_kept s (StartedAgain front back asked principal received session turn work found live) k =
      same_call_kept cell rows (rest s front back) asked.client (prolonged (s.clock + s.sessions.lease)) (λ before. refl) (λ before. refl) (λ before there is. is) (λ before. refl) (λ before. refl) (rest_kept cell rows s k front back (tasks.Asked asked) turn)
  case_kept s (Started front back asked principal received turn work none) k =
      let begun = begun_kept (rest s front back) asked.client principal (s.clock + s.sessions.lease) none (stored_number asked.client (application_client cell rows s k front back asked turn)) (rest_kept cell rows s k front back (tasks.Asked asked) turn) in
      then_retired s front back asked principal turn k none begun
  case_kept s (Reopens instance due) k = reopened_kept cell rows s k instance due.lowest_due
  case_kept s (Tidies idle due) k = tidies_kept s idle due.first_idle k
  case_kept s (Spared front back idle turn held) k = rest_kept cell rows s k front back (tasks.Tidies idle) turn
  case_kept s (Tidied front back idle turn still) k = tidied_application cell rows s k front back idle turn still
  case_kept s (OfEnded front back asked call sequencer turn work gone) k = rest_kept cell rows s k front back (tasks.Asked asked) turn
  case_kept s (Ended front back asked call sequencer noted answer turn work stays live made) k = ended_application cell rows s k front back asked turn noted answer (other_call asked call sequencer work stays)
  case_kept s (Applied front back asked call sequencer noted change answer turn work stays live made) k =
      applied_application cell rows s k front back asked turn noted change answer (other_call asked call sequencer work stays) (application_fits s k front back asked call sequencer _ turn work live made)
  case_kept s (Deleted front back asked call sequencer change instance waiters answer turn work stays live made) k =
      deleted_application cell rows s k front back asked turn change instance waiters answer (other_call asked call sequencer work stays) (application_fits s k front back asked call sequencer _ turn work live made)
  case_kept s (Locked front back asked call sequencer put claim answer turn work stays live made) k =
      locked_application cell rows s k front back asked turn put answer (other_call asked call sequencer work stays) (application_fits s k front back asked call sequencer _ turn work live made)
  case_kept s (Awaited front back asked call sequencer put turn work stays live made) k =
      awaited_application cell rows s k front back asked turn put (other_call asked call sequencer work stays) (application_fits s k front back asked call sequencer _ turn work live made)
  case_kept s (Left front back asked call sequencer noted leave answer turn work stays live made) k =
      left_by_application cell rows s k front back asked turn noted leave answer (other_call asked call sequencer work stays) (application_fits s k front back asked call sequencer _ turn work live made)

-- ---- what clients are told

told_by_beats : (client : ℕ) (event : Event) (session : Session Reply) → IsByBeats client session → IsByBeats client (of_session.told event session)
told_by_beats client event session h = λ some. let P : ℕ → Type 0 = λ count. 1 ≤ count in h (subst P (told_acknowledged event session) some)

-- events are in no row, and nothing else of the master changes
pub tellings_kept : (cell : List ℕ) (rows : Rows) (s : MasterState) (tellings : List SessionEvent) → IsKept cell rows s → IsKept cell rows (with_tellings s tellings)
tellings_kept cell rows s tellings k = stays cell rows s (with_tellings s tellings) k (record {
  name = refl;
  secret = refl;
  epoch = refl;
  next_instance = refl;
  ended_below = refl;
  nodes = refl;
  sessions = rows_told row_of (λ event before. refl) tellings s.sessions;
  locks = refl;
  lives = λ q live. reads_told lives_in (λ event before. refl) tellings s.sessions q ∙ live;
  one_call = one_same s.gate.waiting s.locks s.sessions (with_tellings s tellings).sessions (reads_told keeps_in (λ event before. refl) tellings s.sessions) k.one_call;
  waiting = k.waiting;
  recovery_is_empty = k.recovery_is_empty;
  by_beats = told_each IsByBeats told_by_beats tellings s.sessions k.by_beats;
  recorded = k.recorded;
  issued = told_each (IsIssued s.rights) (λ client event before is. is) tellings s.sessions k.issued;
  owned = told_without (HasNoRight s.rights s.ended_below) tellings s.sessions k.owned;
  orderly = k.orderly;
  touching = k.touching;
  own = k.own;
})

-- ---- a sweep

pub sweep_sound : (cell : List ℕ) (rows : Rows) (s : MasterState) (now : ℕ) → IsKept cell rows s → sound cell (changed_rows rows (sweep_edits s now)) ≡ true
sweep_sound cell rows s now k =
    let there = noted s now in
    let c = sweep_case there (sessions_ordered cell rows s k) k.orderly in
    let P : List Edit → Type 0 = λ edits. sound cell (changed_rows rows edits) ≡ true in
    let kept = case_kept cell rows there c.0 (clock_kept cell rows s (max s.clock now) k) in
    let swept = subst P (sym c.2) kept.sound_rows in
    elim (is_over s now) as (λ b. sound cell (changed_rows rows (if b then [] else action_edits there (first_action there))) ≡ true) [ true ↦ k.sound_rows | false ↦ swept ]

sweep_kept : (cell : List ℕ) (rows : Rows) (s new : MasterState) (now : ℕ) (told : Swept) → IsKept cell rows s → sweep_step s now ≡ Ok (new, told) → IsKept cell (changed_rows rows (sweep_edits s now)) new
sweep_kept cell rows s new now told k h =
    let there = noted s now in
    let c = swept_case s new now told (sessions_ordered cell rows s k) k.orderly h in
    let tellings = first_tellings there in
    let is : new ≡ with_tellings (swept_by there c.0).0 tellings = ap (λ (p : MasterState × Swept). p.0) c.1 in
    let P : List Edit → Type 0 = λ edits. IsKept cell (changed_rows rows edits) (swept_by there c.0).0 in
    let Q : MasterState → Type 0 = IsKept cell (changed_rows rows (sweep_edits s now)) in
    let kept = subst P (sym c.2) (case_kept cell rows there c.0 (clock_kept cell rows s (max s.clock now) k)) in
    subst Q (sym is) (tellings_kept cell (changed_rows rows (sweep_edits s now)) (swept_by there c.0).0 tellings kept)

-- the same of a sweep that may be refused
pub swept_kept : (old new : Store) (s after : MasterState) (now : ℕ) (result : Result Swept Fault) → IsKept old.cell old.rows s → IfOk result (λ told. sweep_step s now ≡ Ok (after, told)) → OnOk result (IsSwept (sweep_frees s now) (sweep_edits s now) old new) → OnErr result (after ≡ s) → IfErr result (λ e. (sweep_step s now ≡ Err e × new ≡ old) ⊎ IsHeldUp e (sweep_frees s now) (sweep_edits s now) old new) → IsKept new.cell new.rows after
swept_kept old new s after now (Ok told) k ok committed err fault =
    let kept = sweep_kept old.cell old.rows s after now told k ok in
    let rows = committed.rows in
    let cell = committed.cell in
    rw (rows, cell) kept
swept_kept old new s after now (Err e) k ok committed err fault =
    let rows : new.rows ≡ old.rows = elim fault [ inl p ↦ ap (λ (x : Store). x.rows) p.1 | inr r ↦ r.rows ] in
    let cell : new.cell ≡ old.cell = elim fault [ inl p ↦ ap (λ (x : Store). x.cell) p.1 | inr r ↦ r.cell ] in
    let master : after ≡ s = err in
    rw (rows, cell, master) k

-- ---- what is answered while the store refuses

beats_step_kept : (cell : List ℕ) (rows : Rows) (s new : MasterState) (now : ℕ) (told : Swept) → IsKept cell rows s → beats_step s now ≡ Ok (new, told) → IsKept cell rows new
beats_step_kept cell rows s new now told k h =
    let there = noted s now in
    let c = answered_case s new now told (sessions_ordered cell rows s k) k.orderly h in
    let tellings = action_tellings there (beats_action there) in
    let is : new ≡ with_tellings (swept_by there c.0).0 tellings = ap (λ (p : MasterState × Swept). p.0) c.1 in
    let P : List Edit → Type 0 = λ edits. IsKept cell (changed_rows rows edits) (swept_by there c.0).0 in
    let kept : IsKept cell rows (swept_by there c.0).0 = subst P (sym c.2) (case_kept cell rows there c.0 (clock_kept cell rows s (max s.clock now) k)) in
    subst (IsKept cell rows) (sym is) (tellings_kept cell rows (swept_by there c.0).0 tellings kept)

pub beats_kept : (cell : List ℕ) (rows : Rows) (s new : MasterState) (now : ℕ) (result : Result Swept Fault) → IsKept cell rows s → IfOk result (λ told. beats_step s now ≡ Ok (new, told)) → OnErr result (new ≡ s) → IsKept cell rows new
beats_kept cell rows s new now (Ok told) k ok err = beats_step_kept cell rows s new now told k ok
beats_kept cell rows s new now (Err fault) k ok err = let P : MasterState → Type 0 = IsKept cell rows in subst P (sym err) k

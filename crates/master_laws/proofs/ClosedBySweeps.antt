-- A handle that was closed for good stays so by each sweep.
use Rattle.std.proofs.Common.{◌≡◌, ℕ, List, [], ◌∷◌, Bool, true, false, cond, Option, Some, None, refl, ap, subst, ◌∙◌, Result, Ok, Err, sym}
use Rattle.std.specs.Prelude.{◌||◌, find}
use Rattle.std.specs.Option.{option_map, option_map_or}
use Rattle.std.specs.List.{list_any}
use Rattle.std.proofs.lemmas.List.Folds.{list_any-append}
use Rattle.gate_core.specs.declared.pending.Pending.{Pending}
use Rattle.gate_core.specs.declared.pending.Waiting.{Waiting}
use Rattle.gate_core.specs.Gate.{is_numbered, without}
use Rattle.session_core.specs.declared.records.Offer.{Offer}
use Rattle.session_core.specs.declared.records.Session.{Session}
use Rattle.session_core.specs.Sessions.{offer_of, lowest}
use Rattle.tags_cell.specs.declared.messages.outs.Reply.{Reply}
use Rattle.node_core.specs.Nodes.{with_parent}
use Rattle.node_core.specs.declared.lines.Line.TheVariants as lines
use Rattle.node_core.specs.declared.refusals.Fault.TheVariants as faults
use Rattle.tags_cell.specs.declared.handles.Handle.{Handle}
use Rattle.tags_cell.specs.declared.messages.calls.Call.{Call}
use Rattle.master_parts.specs.declared.handles.HandleKey.{HandleKey}
use Rattle.master_parts.specs.declared.pending.Task.{Task}
use Rattle.master_parts.specs.declared.pending.Task.TheVariants as tasks
use Rattle.master_parts.specs.declared.pending.Work.TheVariants as works
use Rattle.master_state.specs.Updates.{left, done}
use Rattle.master_parts.specs.Keys.{key_of}
use Rattle.master_parts.specs.OpenHandles.{state_at}
use Rattle.master_parts.specs.declared.handles.HandleNote.{HandleNote}
use Rattle.master_parts.specs.declared.handles.HandleState.{HandleState}
use Rattle.master_state.specs.declared.updates.SessionUpdate.TheVariants.{Begins, Prolongs, Answers}
use Rattle.cell_core.specs.Ephemerals.{tidied, is_still_idle}
use Rattle.cell_core.specs.Step.{queued}
use Rattle.cell_core.proofs.AskedFor.{asks_only}
use Rattle.master_state.specs.NameSpace.{name_space, caller}
use Rattle.master_state.specs.State.{MasterState, task_at}
use Rattle.master_state.specs.Lookups.{session_of, is_live, may_start, retiring, turned_away, noted, reply_of}
use Rattle.master_state.specs.Updates.{with_note}
use Rattle.cell_core.specs.Effect.{effect, gone_by_itself}
use Rattle.over_core.specs.Plans.{first_action, no_plan, session_plan, with_retired, started_out, alive_out, plan_session, plan_start, plan_of, plan_task, plan_work, plan_call, plan_asked, plan_effect, leaving, parting_plan, plan_parting, plan_live, plan_leave}
use Rattle.master_state.specs.Lapses.{lapses_of}
use Rattle.over_core.specs.declared.swept.Swept.{Swept}
use Rattle.over_core.specs.Sweep.{acted, swept, is_over, beats_action, beats_answered, beats_step}
use Rattle.over_core.specs.declared.plans.Plan.{Plan}
use Rattle.over_core.specs.declared.actions.Action.{Action}
use Rattle.over_core.specs.declared.actions.Action.TheVariants as actions
use Rattle.master_laws.specs.Closed.{is_closed, IsClosed, IsClosedForGood, task_opens, work_opens, waits_to_open, ClosedForGoodBySweeps}
use Rattle.master_laws.proofs.AfterSweeps.{parted_handles, done_handles, done_gate, done_epoch}
use Rattle.master_laws.proofs.EndedHandles.{parted_closed}
use Rattle.over_core.proofs.SweepCases.{does_first, not_tidied}
use Rattle.master_laws.proofs.ClosedNotes.{stays_closed}
use Rattle.master_laws.proofs.TameEffects.{tame}
use Rattle.tags_cell.specs.Messages.{is_leave}
use Rattle.tags_cell.specs.declared.messages.outs.CallResult.TheVariants as results
use Rattle.lock_core.specs.declared.partings.Parting.{Parting}
use Rattle.lock_core.specs.declared.partings.Parting.TheVariants as partings
use Rattle.session_core.specs.Session.{is_client_answerable}
use Rattle.node_core.specs.declared.refusals.Fault.{Fault}

-- ---- changes that wait

pub or_parts : (a b : Bool) → (a || b) ≡ false → (a ≡ false) × (b ≡ false)
or_parts true b h = absurd cc
or_parts false b h = (refl, h)

module _ (key : HandleKey) where
  abbrev Opens : Waiting Task → Bool
  Opens w = task_opens key w.change.body

  -- one that has left
  left_unasked : (number : ℕ) (ws : List (Waiting Task)) → list_any Opens ws ≡ false → list_any Opens (without number ws) ≡ false
  left_unasked number [] h = refl
  left_unasked number (w ∷ ws) h =
      let t = or_parts (Opens w) (list_any Opens ws) h in
      elim (is_numbered number w) as (λ b. list_any Opens (cond b ws (w ∷ without number ws)) ≡ false) [ true ↦ t.1 | false ↦ rw t.0 (left_unasked number ws t.1) ]

  leaves_unasked : (s : MasterState) (o : Option ℕ) → waits_to_open key s ≡ false → waits_to_open key (left s o) ≡ false
  leaves_unasked s None h = h
  leaves_unasked s (Some number) h = left_unasked number s.gate.waiting h

  -- one of a number
  found_unasked : (number : ℕ) (ws : List (Waiting Task)) (task : Task) → list_any Opens ws ≡ false → task_at number ws ≡ Some task → task_opens key task ≡ false
  found_unasked number [] task h = λ is. absurd cc
  found_unasked number (w ∷ ws) task h =
      let t = or_parts (Opens w) (list_any Opens ws) h in
      elim (is_numbered number w) as (λ b. option_map (λ (change : Pending Task). change.body) (option_map (λ (v : Waiting Task). v.change) (cond b (Some w) (find (is_numbered number) ws))) ≡ Some task → task_opens key task ≡ false) [
        | true ↦ (λ is. let same : w.change.body ≡ task = cc in subst (λ x. task_opens key x ≡ false) same t.0)
        | false ↦ (λ is. found_unasked number ws task t.1 is)
      ]

-- ---- what is known of a handle

unmoved : (handle : Handle) (new old : MasterState) → new.epoch ≡ old.epoch → new.handles ≡ old.handles → IsClosed old handle → IsClosed new handle
unmoved handle new old epoch handles h =
    ap (λ (e : ℕ). is_closed e handle (state_at new.handles (key_of handle))) epoch ∙ ap (λ (es : List (HandleKey × HandleState)). is_closed old.epoch handle (state_at es (key_of handle))) handles ∙ h

note_epoch : (s : MasterState) (o : Option HandleNote) → (with_note s o).epoch ≡ s.epoch
note_epoch s None = refl
note_epoch s (Some note) = refl

-- ---- what is planned

module _ (s : MasterState) (handle : Handle) (closed : IsClosed s handle) where
  -- the end of a session notes nothing
  by_parting : (parting : Parting) (client : ℕ) (own : List Reply) → IsClosed (with_note s (plan_parting parting s client own).update.note) handle
  by_parting parting client own =
      elim (session_of s client) as (λ o. IsClosed (with_note s (option_map_or (λ (session : Session Reply). parting_plan parting s client session.principal (lapses_of parting s client) own) o no_plan).update.note) handle) [ None ↦ closed | Some session ↦ closed ]

  -- what a call notes
  by_call : (client number : ℕ) (call : Call) (sequencer : Option (List ℕ)) → work_opens (key_of handle) client number (works.Calls call sequencer) ≡ false → IsClosed (with_note s (plan_call s client number call sequencer).update.note) handle
  by_call client number call sequencer other =
      elim (is_live s client) as (λ b. IsClosed (with_note s (cond b (plan_live s client number call sequencer) no_plan).update.note) handle) [
        | true ↦ elim (is_leave call) as (λ b. IsClosed (with_note s (cond b (plan_leave s client number) (plan_asked s client number call (effect (name_space s) (caller s client) s.clock number call sequencer))).update.note) handle) [
          | true ↦ by_parting partings.Leave client (reply_of s client number results.Done ∷ [])
          | false ↦ stays_closed s client number call handle closed other (effect (name_space s) (caller s client) s.clock number call sequencer).note (tame s client number call sequencer).notes
        ]
        | false ↦ closed
      ]

  by_start : (client number : ℕ) (principal : List ℕ) (received : ℕ) → IsClosed (with_note s (plan_start s client number principal received).update.note) handle
  by_start client number principal received =
      elim (may_start s client principal) as (λ b. IsClosed (with_note s (cond b (plan_session s client number principal received) (record no_plan { taken = turned_away s client number faults.NoSession })).update.note) handle) [
        | true ↦ elim (is_live s client) as (λ b. IsClosed (with_note s (cond b (session_plan (Prolongs client) [] (started_out s client number received ∷ [])) (with_retired (retiring s) (session_plan (Begins client principal) (lines.Started client ∷ []) (started_out s client number received ∷ [])))).update.note) handle) [ true ↦ closed | false ↦ closed ]
        | false ↦ closed
      ]

  by_task : (task : Task) → task_opens (key_of handle) task ≡ false → IsClosed (with_note s (plan_task s task).update.note) handle
  by_task (tasks.Asked asked) other =
      (elim asked.work as (λ work. work_opens (key_of handle) asked.client asked.number work ≡ false → IsClosed (with_note s (plan_work s asked.client asked.number work).update.note) handle) [
        | works.Starts principal received ↦ (λ h. by_start asked.client asked.number principal received)
        | works.Calls call sequencer ↦ (λ h. by_call asked.client asked.number call sequencer h)
      ]) other
  by_task (tasks.Tidies idle) other =
      elim (is_still_idle s idle) as (λ b. IsClosed (with_note s (cond b (plan_effect s 0 0 (gone_by_itself (name_space s) idle)) no_plan).update.note) handle) [ true ↦ closed | false ↦ closed ]

  module _ (unasked : waits_to_open (key_of handle) s ≡ false) where
    by_number : (number : ℕ) → IsClosed (with_note s (plan_of s (actions.Apply number)).update.note) handle
    by_number number =
        (elim (task_at number s.gate.waiting) as (λ o. task_at number s.gate.waiting ≡ o → IsClosed (with_note s (option_map_or (λ (task : Task). leaving number (plan_task s task)) o no_plan).update.note) handle) [
          | None ↦ (λ is. closed)
          | Some task ↦ (λ is. by_task task (found_unasked (key_of handle) number s.gate.waiting task unasked is))
        ]) refl

    by_expiry : (client : ℕ) → IsClosed (with_note s (plan_of s (actions.Expire client)).update.note) handle
    by_expiry client = by_parting partings.Expiry client []

    by_beat : (client : ℕ) → IsClosed (with_note s (plan_of s (actions.Answer client)).update.note) handle
    by_beat client =
        elim (offer_of s.sessions client s.clock) as (λ o. IsClosed (with_note s (option_map_or (λ (offer : Offer). session_plan (Answers client) [] (alive_out s client offer ∷ [])) o no_plan).update.note) handle) [ None ↦ closed | Some offer ↦ closed ]

    -- as the handles stand after an update
    by_plan : (plan : Plan) → IsClosed (with_note s plan.update.note) handle → IsClosedForGood (done s plan.update) handle
    by_plan plan h = record {
      closed =
          let there : MasterState = with_note s plan.update.note in
          unmoved handle (done s plan.update) (record there { handles = parted_handles plan.update.session there.handles }) (done_epoch s plan.update ∙ sym (note_epoch s plan.update.note)) (done_handles s plan.update)
          (parted_closed there.epoch handle (key_of handle) plan.update.session there.handles h);
      unasked = ap (λ gate. list_any (Opens (key_of handle)) gate.waiting) (done_gate s plan.update) ∙ leaves_unasked (key_of handle) s plan.update.leaves unasked;
    }

    by_action : (action : Action) → IsClosedForGood (acted s action).0 handle
    by_action actions.Recover = by_plan (plan_of s actions.Recover) closed
    by_action (actions.Expire client) = by_plan (plan_of s (actions.Expire client)) (by_expiry client)
    by_action (actions.Apply number) = by_plan (plan_of s (actions.Apply number)) (by_number number)
    by_action (actions.Reopen instance) = by_plan (plan_of s (actions.Reopen instance)) closed
    by_action (actions.Tidy idle) =
        let names = with_parent idle.name in
        let asked = asks_only names (queued s names (tasks.Tidies idle)) in
        record {
          closed = unmoved handle (tidied s idle) s (ap (λ (m : MasterState). m.epoch) asked) (ap (λ (m : MasterState). m.handles) asked) closed;
          unasked = ap (λ (m : MasterState). list_any (Opens (key_of handle)) m.gate.waiting) asked ∙ list_any-append (Opens (key_of handle)) s.gate.waiting _ ∙ rw unasked refl;
        }
    by_action (actions.Answer client) = by_plan (plan_of s (actions.Answer client)) (by_beat client)
    by_action actions.Quiet = by_plan (plan_of s actions.Quiet) closed

pub closed_for_good_by_sweeps : ClosedForGoodBySweeps
closed_for_good_by_sweeps s new now handle told h gone =
    let there : MasterState = noted s now in
    let after = by_action there handle gone.closed gone.unasked (first_action there) in
    let is : (swept there (first_action there)).0 ≡ new = ap (λ p. p.0) (does_first s now (new, told) h) in
    subst (λ m. IsClosedForGood m handle) is (record { closed = after.closed; unasked = after.unasked })

-- the same of a Beat that is answered while the store refuses
pub closed_by_beats : (s new : MasterState) (now : ℕ) (handle : Handle) (told : Swept) → beats_step s now ≡ Ok (new, told) → IsClosedForGood s handle → IsClosedForGood new handle
unfolding beats_step
closed_by_beats s new now handle told h gone =
    let there : MasterState = noted s now in
    let same = not_tidied there (lowest there.sessions (is_client_answerable there.sessions.lease there.clock)) in
    let after = subst (λ (p : MasterState × Swept). IsClosedForGood p.0 handle) (sym same) (by_action there handle gone.closed gone.unasked (beats_action there)) in
    let here : IsClosedForGood (beats_answered there).0 handle = record { closed = after.closed; unasked = after.unasked } in
    (elim (is_over s now) as (λ b. cond {A = Result (MasterState × Swept) Fault} b (Err faults.Exhausted) (Ok (beats_answered there)) ≡ Ok (new, told) → IsClosedForGood new handle) [
      | true ↦ (λ e. cc)
      | false ↦ (λ e. let is : beats_answered there ≡ (new, told) = cc in subst (λ (p : MasterState × Swept). IsClosedForGood p.0 handle) is here)
    ]) h

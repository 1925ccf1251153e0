-- What rests of a master's freedom to change a name and to end a session, where it sweeps, commits nothing, and no change leaves the gate.
use Rattle.std.proofs.Common.{◌≡◌, ℕ, ◌≤◌, Bool, true, false, cond, List, [], ◌∷◌, ◌++◌, Result, Ok, Err, Option, Some, None, arith, append-nil, refl, sym, ap, ◌∙◌, subst}
use Rattle.std.specs.Prelude.{◌&&◌, ◌==◌, nat_le, not, is_some}
use Rattle.std.specs.Option.{option_map_or}
use Rattle.std.specs.List.Sorted.{IsStrictlySortedBy}
use Rattle.std.specs.Map.{keys_of}
use Rattle.std.specs.Ordering.{nat_cmp}
use Rattle.std.proofs.lemmas.Bool.Decides.{nat_tests}
use Rattle.node_core.specs.declared.refusals.Fault.{Fault}
use Rattle.node_core.specs.declared.refusals.Fault.TheVariants as faults
use Rattle.node_core.specs.Nodes.{with_parent}
use Rattle.rows_cell.specs.declared.tables.Edit.{Edit}
use Rattle.rows_cell.specs.declared.tables.Edit.TheVariants.{PutSession}
use Rattle.rows_cell.specs.LockRows.{locks_edits}
use Rattle.tags_cell.specs.declared.messages.outs.Reply.{Reply}
use Rattle.tags_cell.specs.Numbers.{is_client_number}
use Rattle.session_core.specs.declared.records.Offer.{Offer}
use Rattle.session_core.specs.declared.records.Session.{Session}
use Rattle.session_core.specs.Session.{answered, is_client_expired, is_client_due, is_client_answerable, is_due, is_expired}
use Rattle.session_core.specs.Sessions.{all_heard, lowest, passes, offer_of, IsLowest}
use Rattle.session_core.proofs.Lowest.{some_lowest, lowest_is}
use Rattle.session_core.proofs.OneClient.{other_session}
use Rattle.lock_core.specs.Locks.{lock_at, due}
use Rattle.lock_core.specs.Turns.{reopened}
use Rattle.lock_core.specs.declared.partings.Parting.TheVariants as partings
use Rattle.master_parts.specs.declared.notices.SessionEvent.{SessionEvent}
use Rattle.master_parts.specs.declared.pending.Orphan.{Orphan}
use Rattle.master_parts.specs.declared.pending.Task.{Task}
use Rattle.master_parts.specs.declared.pending.Task.TheVariants as tasks
use Rattle.master_state.specs.Lapses.{lapses_of, lapses_puts}
use Rattle.master_state.specs.Lookups.{session_of, noted}
use Rattle.master_state.specs.Notices.{with_tellings}
use Rattle.master_state.specs.Replies.{kept_puts, turn_replies}
use Rattle.master_state.specs.State.{MasterState, next_change, task_at}
use Rattle.master_state.specs.Updates.{done, edits_of, lock_changes}
use Rattle.cell_core.specs.Ephemerals.{next_idle, tidied}
use Rattle.cell_core.specs.Step.{queued}
use Rattle.over_core.specs.declared.actions.Action.{Action}
use Rattle.over_core.specs.declared.actions.Action.TheVariants as actions
use Rattle.over_core.specs.declared.plans.Plan.{Plan}
use Rattle.over_core.specs.declared.swept.Swept.{Swept}
use Rattle.over_core.specs.Plans.{plan_of, plan_task, no_plan, leaving, tellings_of, first_action, apply_or_later, reopen_or_later, tidy_or_later, answer_or_quiet}
use Rattle.over_core.specs.Sweep.{acted, swept, action_edits, frees, is_over, sweep_step, sweep_edits, sweep_frees, beats_action, beats_answered, beats_step}
use Rattle.over_core.proofs.SweepCases.{expiry_of, answer_of}
use Rattle.over_core.proofs.ToldSessions.{reads_told}
use Rattle.world_cell.specs.Left.{IsOverAs, IsOver}
use Rattle.world_cell.specs.Slices.{seen_of}
use Rattle.world_cell.proofs.CrashTakes.{Stays, stays_on, stays_seen, queued_stays, asking_stays}
use Rattle.world_cell.proofs.LockReplies.{told_seen}
use Rattle.world_cell.proofs.Slices.{by_test, is_same, is_other}

-- ---- who may be ended isn't answered

expired_so : (live : Bool) (timeout now : ℕ) → live ≡ true → timeout ≤ now → (live && nat_le timeout now) ≡ true
expired_so true timeout now h k = grind (arith, nat_tests, k)
expired_so false timeout now h k = cc

over_expires : (now client : ℕ) (o : Option (Session Reply)) → IsOverAs now (seen_of o) → option_map_or (is_client_expired now client) o false ≡ true
over_expires now client None over = let e : false ≡ true = over.0 in cc
over_expires now client (Some session) over = expired_so session.live session.timeout now over.0 over.1

-- nobody's timeout has come
none_over : (s : MasterState) → lowest s.sessions (is_client_expired s.clock) ≡ None → (c : ℕ) → IsOver s.clock s c → ⊥
none_over s none c over =
    let some : is_some (lowest s.sessions (is_client_expired s.clock)) ≡ true = some_lowest s.sessions (is_client_expired s.clock) c (over_expires s.clock c (session_of s c) over) in
    let e : false ≡ true = sym (ap (λ (o : Option ℕ). is_some o) none) ∙ some in
    cc

not_both : (number due expired : Bool) → (number && (due && not expired)) ≡ true → expired ≡ true → ⊥
not_both true true true h k = let e : false ≡ true = h in cc
not_both true true false h k = cc
not_both true false expired h k = let e : false ≡ true = h in cc
not_both false due expired h k = let e : false ≡ true = h in cc

answerable_not_over : (lease now client : ℕ) (o : Option (Session Reply)) → option_map_or (is_client_answerable lease now client) o false ≡ true → IsOverAs now (seen_of o) → ⊥
answerable_not_over lease now client None passes over = let e : false ≡ true = passes in cc
answerable_not_over lease now client (Some session) passes over = not_both (is_client_number client) (is_due lease now session) (is_expired now session) passes (expired_so session.live session.timeout now over.0 over.1)

-- the timeout of a client whose Beat is answered hasn't come
answerable_in_time : (s : MasterState) (client : ℕ) → IsStrictlySortedBy nat_cmp (keys_of s.sessions.sessions) → lowest s.sessions (is_client_answerable s.sessions.lease s.clock) ≡ Some client → IsOver s.clock s client → ⊥
answerable_in_time s client order is over =
    let least : IsLowest s.sessions (is_client_answerable s.sessions.lease s.clock) (Some client) = lowest_is s.sessions s.sessions (is_client_answerable s.sessions.lease s.clock) (Some client) refl order (sym is) in
    answerable_not_over s.sessions.lease s.clock client (session_of s client) least.0 over

-- ---- one action

not_nil : {A : Type 0} (xs : List A) (y : A) (zs : List A) → xs ++ y ∷ zs ≡ [] → ⊥
not_nil [] y zs h = cc
not_nil (x ∷ xs) y zs h = cc

module _ (s : MasterState) where
  -- what is planned commits nothing, and nothing leaves the gate
  abbrev StaysBy : Plan → Type 0
  StaysBy plan = frees plan ≡ false → edits_of s plan.update ≡ [] → Stays s.clock s (done s plan.update)

  nothing_stays : StaysBy no_plan
  nothing_stays none bare = stays_seen s.clock s (done s no_plan.update) refl refl (λ c. refl)

  expiry_stays : (client : ℕ) (o : Option (Session Reply)) → StaysBy (expiry_of s client o)
  expiry_stays client None = nothing_stays
  expiry_stays client (Some session) = λ none bare.
      let locks : List Edit = locks_edits (lock_changes s (lapses_puts s (lapses_of partings.Expiry s client))) in
      let put : Edit = PutSession client (record { principal = session.principal; live = false }) in
      absurd (not_nil locks put [] (sym (append-nil (locks ++ put ∷ [])) ∙ bare))

  apply_stays : (number : ℕ) (o : Option Task) → StaysBy (option_map_or (λ task. leaving number (plan_task s task)) o no_plan)
  apply_stays number None = nothing_stays
  apply_stays number (Some task) = λ none bare. absurd (let e : true ≡ false = none in cc)

  reopen_stays : (instance : ℕ) → StaysBy (plan_of s (actions.Reopen instance))
  reopen_stays instance none bare = stays_seen s.clock s (done s (plan_of s (actions.Reopen instance)).update) refl refl (λ c. told_seen s.sessions (kept_puts (turn_replies s (reopened (lock_at s.locks instance)))) c)

  answer_stays : (client : ℕ) → (IsOver s.clock s client → ⊥) → (o : Option Offer) → StaysBy (answer_of s client o)
  answer_stays client in_time None = nothing_stays
  answer_stays client in_time (Some offer) = λ none bare. record {
    pending = λ x more. more;
    held = λ c x more free. free;
    over = λ c over. by_test (c == client)
        (λ own. absurd (in_time (subst (λ (z : ℕ). IsOver s.clock s z) (is_same c client own) over)))
        (λ other. subst (λ (o : Option (Session Reply)). IsOverAs s.clock (seen_of o)) (sym (other_session s.sessions client (answered s.sessions.lease s.clock) c (is_other c client other))) over);
  }

  tidied_stays : (idle : Orphan) → Stays s.clock s (tidied s idle)
  tidied_stays idle =
      let t : MasterState = queued s (with_parent idle.name) (tasks.Tidies idle) in
      stays_on s.clock s t (tidied s idle) (queued_stays s.clock s (with_parent idle.name) (tasks.Tidies idle)) (asking_stays s.clock t (with_parent idle.name))

  abbrev ActionStays : Action → Type 0
  ActionStays action = frees (plan_of s action) ≡ false → action_edits s action ≡ [] → Stays s.clock s (acted s action).0

  -- ---- the first that there is

  last_stays : lowest s.sessions (is_client_expired s.clock) ≡ None → (o : Option ℕ) → ActionStays (option_map_or actions.Answer o actions.Quiet)
  last_stays none None = nothing_stays
  last_stays none (Some client) = answer_stays client (none_over s none client) (offer_of s.sessions client s.clock)

  idle_stays : lowest s.sessions (is_client_expired s.clock) ≡ None → (o : Option Orphan) → ActionStays (option_map_or actions.Tidy o (answer_or_quiet s))
  idle_stays none None = last_stays none (lowest s.sessions (is_client_due s.sessions.lease s.clock))
  idle_stays none (Some idle) = λ free bare. tidied_stays idle

  closed_stays : lowest s.sessions (is_client_expired s.clock) ≡ None → (o : Option ℕ) → ActionStays (option_map_or actions.Reopen o (tidy_or_later s))
  closed_stays none None = idle_stays none (next_idle s)
  closed_stays none (Some instance) = reopen_stays instance

  waiting_stays : lowest s.sessions (is_client_expired s.clock) ≡ None → (o : Option ℕ) → ActionStays (option_map_or actions.Apply o (reopen_or_later s))
  waiting_stays none None = closed_stays none (due s.locks s.clock)
  waiting_stays none (Some number) = apply_stays number (task_at number s.gate.waiting)

  session_stays : (o : Option ℕ) → lowest s.sessions (is_client_expired s.clock) ≡ o → ActionStays (option_map_or actions.Expire o (apply_or_later s))
  session_stays None none = waiting_stays none (next_change s)
  session_stays (Some client) is = expiry_stays client (session_of s client)

  recovery_stays : (b : Bool) → ActionStays (cond b actions.Recover (option_map_or actions.Expire (lowest s.sessions (is_client_expired s.clock)) (apply_or_later s)))
  recovery_stays true = λ free bare. stays_seen s.clock s (acted s actions.Recover).0 refl refl (λ c. refl)
  recovery_stays false = session_stays (lowest s.sessions (is_client_expired s.clock)) refl

  first_stays : ActionStays (first_action s)
  first_stays = recovery_stays (s.recovering && all_heard s.sessions)

  beats_stays : IsStrictlySortedBy nat_cmp (keys_of s.sessions.sessions) → (o : Option ℕ) → lowest s.sessions (is_client_answerable s.sessions.lease s.clock) ≡ o → Stays s.clock s (done s (plan_of s (option_map_or actions.Answer o actions.Quiet)).update)
  beats_stays order None is = nothing_stays refl refl
  beats_stays order (Some client) is = by_offer (offer_of s.sessions client s.clock)
    where
      by_offer : (o : Option Offer) → Stays s.clock s (done s (answer_of s client o).update)
      by_offer None = nothing_stays refl refl
      by_offer (Some offer) = answer_stays client (answerable_in_time s client order is) (Some offer) refl refl

-- ---- and clients are told of it

told_stays : (now : ℕ) (t : MasterState) (tellings : List SessionEvent) → Stays now t (with_tellings t tellings)
told_stays now t tellings = stays_seen now t (with_tellings t tellings) refl refl (λ c. reads_told seen_of (λ event before. refl) tellings t.sessions c)

pub swept_stays : (s : MasterState) → frees (plan_of s (first_action s)) ≡ false → action_edits s (first_action s) ≡ [] → Stays s.clock s (swept s (first_action s)).0
swept_stays s free bare =
    stays_on s.clock s (acted s (first_action s)).0 (swept s (first_action s)).0 (first_stays s free bare) (told_stays s.clock (acted s (first_action s)).0 (tellings_of s (plan_of s (first_action s))))

pub beaten_stays : (s : MasterState) → IsStrictlySortedBy nat_cmp (keys_of s.sessions.sessions) → Stays s.clock s (beats_answered s).0
beaten_stays s order =
    let t : MasterState = done s (plan_of s (beats_action s)).update in
    stays_on s.clock s t (beats_answered s).0 (beats_stays s order (lowest s.sessions (is_client_answerable s.sessions.lease s.clock)) refl) (told_stays s.clock t (tellings_of s (plan_of s (beats_action s))))

-- ---- sweeps at a moment

-- a sweep that was made, commits nothing, and frees nothing
pub record IsPlainSweep (s : MasterState) (p : MasterState × Swept) : Type 0 where
  pub is : swept s (first_action s) ≡ p
  pub none : frees (plan_of s (first_action s)) ≡ false
  pub bare : action_edits s (first_action s) ≡ []

pub plain_sweep : (s : MasterState) (now : ℕ) (p : MasterState × Swept) → sweep_step s now ≡ Ok p → sweep_frees s now ≡ false → sweep_edits s now ≡ [] → IsPlainSweep (noted s now) p
unfolding sweep_step
plain_sweep s now p h none bare =
    let there : MasterState = noted s now in
    let planned : MasterState × Swept = swept there (first_action there) in
    (elim (is_over s now) as (λ b. cond {A = Result (MasterState × Swept) Fault} b (Err faults.Exhausted) (Ok planned) ≡ Ok p → cond b false (frees (plan_of there (first_action there))) ≡ false → cond b [] (action_edits there (first_action there)) ≡ [] → IsPlainSweep there p) [
      | true ↦ (λ e f g. absurd (cc))
      | false ↦ (λ e f g. let same : planned ≡ p = cc in record { is = same; none = f; bare = g })
    ]) h none bare

-- one that is refused commits nothing
pub refused_bare : (s : MasterState) (now : ℕ) (fault : Fault) → sweep_step s now ≡ Err fault → sweep_edits s now ≡ []
unfolding sweep_step
refused_bare s now fault h =
    let there : MasterState = noted s now in
    let planned : MasterState × Swept = swept there (first_action there) in
    (elim (is_over s now) as (λ b. cond {A = Result (MasterState × Swept) Fault} b (Err faults.Exhausted) (Ok planned) ≡ Err fault → cond b [] (action_edits there (first_action there)) ≡ []) [
      | true ↦ (λ e. refl)
      | false ↦ (λ e. cc)
    ]) h

pub made_beats : (s : MasterState) (now : ℕ) (p : MasterState × Swept) → beats_step s now ≡ Ok p → beats_answered (noted s now) ≡ p
unfolding beats_step
made_beats s now p h =
    let planned : MasterState × Swept = beats_answered (noted s now) in
    (elim (is_over s now) as (λ b. cond {A = Result (MasterState × Swept) Fault} b (Err faults.Exhausted) (Ok planned) ≡ Ok p → planned ≡ p) [
      | true ↦ (λ e. cc)
      | false ↦ (λ e. cc)
    ]) h

-- What holds of a master since it came up.
use Rattle.std.proofs.Common.{◌≡◌, ℕ, ◌≤◌, List, [], ◌∷◌, true, false, Ok, Err, refl, sym, ap, subst, ◌∙◌, arith}
use Rattle.std.specs.Prelude.{◌||◌, max, nat_le, fold, length}
use Rattle.std.specs.List.{list_all}
use Rattle.std.proofs.lemmas.Bool.{and_parts}
use Rattle.node_core.specs.Limits.{number_limit}
use Rattle.lease_core.specs.Lease.{longest_lease}
use Rattle.rows_cell.specs.declared.settings.Limits.{Limits}
use Rattle.rows_cell.specs.Rows.{changed_rows}
use Rattle.rows_cell.specs.declared.tables.Rows.{Rows}
use Rattle.tags_cell.specs.Messages.{request_client}
use Rattle.tags_cell.specs.Numbers.{is_client_number}
use Rattle.tags_cell.specs.declared.messages.requests.Request.{Request}
use Rattle.rights_core.proofs.Recorded.{none_of}
use Rattle.session_core.specs.declared.records.Tally.{Tally}
use Rattle.session_core.specs.Sessions.{session_of, has_spent_events}
use Rattle.master_parts.specs.declared.notices.SessionEvent.{SessionEvent}
use Rattle.master_parts.specs.declared.pending.Taken.{Taken}
use Rattle.master_state.specs.State.{MasterState, master_of}
use Rattle.master_state.specs.Lookups.{noted}
use Rattle.master_state.specs.Notices.{with_tellings}
use Rattle.cell_core.specs.Cases.{taken_by}
use Rattle.cell_core.specs.Step.{take_step}
use Rattle.cell_core.proofs.TakeCases.{taken_case, taken_unspent}
use Rattle.over_core.specs.declared.swept.Swept.{Swept}
use Rattle.over_core.specs.Kept.{IsKept}
use Rattle.over_core.specs.Sweep.{sweep_step, beats_action, beats_step}
use Rattle.over_core.specs.SweepCase.{SweepCase, swept_by, swept_edits}
use Rattle.over_core.proofs.EachSession.{Each}
use Rattle.over_core.proofs.KeptBySweeps.{sessions_ordered, tellings_kept, case_kept}
use Rattle.over_core.proofs.KeptByTakes.{clock_kept, taken_kept}
use Rattle.over_core.proofs.SweepCases.{action_tellings, first_tellings}
use Rattle.over_core.proofs.ToldSessions.{lease_told}
use Rattle.master_laws.specs.Closed.{MasterStep, left_by, master_behind}
use Rattle.master_laws.specs.Closed.MasterStep.{Takes, Sweeps, Beats}
use Rattle.master_laws.specs.Waits.{is_of_client, HasComeUp}
use Rattle.master_laws.proofs.Answerable.{IsAnswerable, alike, session_in}
use Rattle.master_laws.proofs.AnswerableSteps.{same, tellings_alike, case_answerable, swept_answerable}
use Rattle.master_laws.proofs.TimedCases.{IsTimed, timed_sweep, timed_beats}
use Rattle.master_laws.proofs.SessionSteps.{each_taken, each_told, each_by_case, each_by_sweep}
use Rattle.master_laws.proofs.Timely.{lease_by_case, lease_by_sweep, clock_by_case, clock_by_sweep, IsTimely, later_timely, timely_carried, timely_taken, timely_swept, timely_up}

-- under this lease
pub record IsReached (lease : ℕ) (s : MasterState) : Type 0 where
  pub cell : List ℕ
  pub rows : Rows
  pub kept : IsKept cell rows s
  pub is_lease : s.sessions.lease ≡ lease
  pub fits : lease ≤ longest_lease
  pub answerable : IsAnswerable [] s
  pub timely : Each (IsTimely s.clock) s.sessions

-- a moment more
later_clock : (a b : ℕ) → a ≤ max a b
later_clock a b = omega arith

pub noted_reached : (lease : ℕ) (s : MasterState) (now : ℕ) → IsReached lease s → IsReached lease (noted s now)
noted_reached lease s now r = record {
  cell = r.cell;
  rows = r.rows;
  kept = clock_kept r.cell r.rows s (max s.clock now) r.kept;
  is_lease = r.is_lease;
  fits = r.fits;
  answerable = alike [] s (noted s now) (same s (noted s now) refl refl refl) r.answerable;
  timely = λ client session found. later_timely s.clock (max s.clock now) client session (later_clock s.clock now) (r.timely client session found);
}

-- ---- a message

within_lease : (a b c : ℕ) → a ≡ b → b ≤ c → a ≤ c
within_lease a b c h k = omega (arith, h, k)

module _ (lease : ℕ) where
  pub spare_pushed : (s new : MasterState) (now : ℕ) (request : Request) (taken : Taken) → take_step s now request ≡ Ok (new, taken) → nat_le number_limit s.gate.pushed ≡ false
  spare_pushed s new now request taken h =
      let counts = none_of (nat_le number_limit s.gate.pushed || nat_le number_limit (length s.rights)) (has_spent_events s.sessions) (taken_unspent s new now request taken h) in
      (none_of (nat_le number_limit s.gate.pushed) (nat_le number_limit (length s.rights)) counts.0).0

  taken_reached : (s : MasterState) (now : ℕ) (request : Request) (done : MasterState × Taken) → is_client_number (request_client request) ≡ true → take_step s now request ≡ Ok done → IsReached lease s → IsReached lease done.0
  taken_reached s now request done in_range h r =
      let there = noted s now in
      let n = noted_reached lease s now r in
      let c = taken_case s done.0 now request done.1 h in
      let spare = spare_pushed s done.0 now request done.1 h in
      let is : done.0 ≡ (taken_by there request c.0).0 = ap (λ (p : MasterState × Taken). p.0) c.1 in
      let clock : (taken_by there request c.0).0.clock ≡ there.clock = clock_by_case there request c.0 in
      let A : MasterState → Type 0 = IsAnswerable [] in
      let L : MasterState → Type 0 = λ m. m.sessions.lease ≡ lease in
      let T : MasterState → Type 0 = λ m. Each (IsTimely m.clock) m.sessions in
      let U : ℕ → Type 0 = λ t. Each (IsTimely t) (taken_by there request c.0).0.sessions in
      record {
        cell = r.cell;
        rows = r.rows;
        kept = taken_kept r.cell r.rows s done.0 now request (Ok done.1) r.kept in_range h tt;
        is_lease = subst L (sym is) (lease_by_case there request c.0 ∙ n.is_lease);
        fits = r.fits;
        answerable = subst A (sym is) (case_answerable n.cell n.rows there request c.0 spare n.kept in_range n.answerable);
        timely = subst T (sym is) (subst U (sym clock) (each_by_case (IsTimely there.clock) n.cell n.rows there request c.0 (timely_taken there request) spare n.kept in_range n.timely));
      }

  -- ---- a sweep, and an answered Beat

  case_reached : (s : MasterState) (c : SweepCase s) (tellings : List SessionEvent) → IsTimed s c → IsReached lease s → IsReached lease (with_tellings (swept_by s c).0 tellings)
  case_reached s c tellings timed r =
      let after = (swept_by s c).0 in
      let rows = changed_rows r.rows (swept_edits s c) in
      let kept : IsKept r.cell rows after = case_kept r.cell r.rows s c r.kept in
      let U : ℕ → Type 0 = λ t. Each (IsTimely t) (with_tellings after tellings).sessions in
      record {
        cell = r.cell;
        rows = rows;
        kept = tellings_kept r.cell rows after tellings kept;
        is_lease = lease_told tellings after.sessions ∙ lease_by_sweep s c ∙ r.is_lease;
        fits = r.fits;
        answerable = alike [] after (with_tellings after tellings) (tellings_alike tellings after) (swept_answerable r.cell r.rows s c r.kept r.answerable);
        timely = subst U (sym (clock_by_sweep s c)) (each_told (IsTimely s.clock) after tellings (timely_carried s.clock) (each_by_sweep (IsTimely s.clock) r.cell r.rows s c timed (timely_swept s (within_lease s.sessions.lease lease longest_lease r.is_lease r.fits)) r.kept r.timely));
      }

  swept_reached : (s : MasterState) (now : ℕ) (done : MasterState × Swept) → sweep_step s now ≡ Ok done → IsReached lease s → IsReached lease done.0
  swept_reached s now done h r =
      let there = noted s now in
      let c = timed_sweep s now done (sessions_ordered r.cell r.rows s r.kept) r.kept.orderly h in
      subst (IsReached lease) (sym c.2) (case_reached there c.0 (first_tellings there) c.1 (noted_reached lease s now r))

  answered_reached : (s : MasterState) (now : ℕ) (done : MasterState × Swept) → beats_step s now ≡ Ok done → IsReached lease s → IsReached lease done.0
  answered_reached s now done h r =
      let there = noted s now in
      let c = timed_beats s now done (sessions_ordered r.cell r.rows s r.kept) h in
      let tellings = action_tellings there (beats_action there) in
      subst (IsReached lease) (sym c.2) (case_reached there c.0 tellings c.1 (noted_reached lease s now r))

  -- ---- every step

  by_take : (s : MasterState) (now : ℕ) (request : Request) → is_client_number (request_client request) ≡ true → IsReached lease s → IsReached lease (left_by s (take_step s now request))
  by_take s now request in_range r =
      (elim (take_step s now request) as (λ x. take_step s now request ≡ x → IsReached lease (left_by s x)) [
        | Ok done ↦ (λ h. taken_reached s now request done in_range h r)
        | Err fault ↦ (λ h. r)
      ]) refl

  by_sweep : (s : MasterState) (now : ℕ) → IsReached lease s → IsReached lease (left_by s (sweep_step s now))
  by_sweep s now r =
      (elim (sweep_step s now) as (λ x. sweep_step s now ≡ x → IsReached lease (left_by s x)) [
        | Ok done ↦ (λ h. swept_reached s now done h r)
        | Err fault ↦ (λ h. r)
      ]) refl

  by_beats : (s : MasterState) (now : ℕ) → IsReached lease s → IsReached lease (left_by s (beats_step s now))
  by_beats s now r =
      (elim (beats_step s now) as (λ x. beats_step s now ≡ x → IsReached lease (left_by s x)) [
        | Ok done ↦ (λ h. answered_reached s now done h r)
        | Err fault ↦ (λ h. r)
      ]) refl

  pub by_step : (s : MasterState) (step : MasterStep) → is_of_client step ≡ true → IsReached lease s → IsReached lease (master_behind s step)
  by_step s (Takes now request) in_range r = by_take s now request in_range r
  by_step s (Sweeps now) in_range r = by_sweep s now r
  by_step s (Beats now) in_range r = by_beats s now r

  pub by_steps : (s : MasterState) (steps : List MasterStep) → list_all is_of_client steps ≡ true → IsReached lease s → IsReached lease (fold master_behind s steps)
  by_steps s [] all r = r
  by_steps s (step ∷ steps) all r =
      let t = and_parts (is_of_client step) (list_all is_of_client steps) all in
      by_steps (master_behind s step) steps t.1 (by_step s step t.0 r)

-- ---- from the beginning

nothing_held : {P : Type 0} → false ≡ true → P
nothing_held h = absurd (cc)

pub up_reached : (cell : List ℕ) (rows : Rows) (limits : Limits) (lease up : ℕ) → lease ≤ longest_lease → IsKept cell rows (master_of rows (record { lease = lease; limits = limits }) up) → IsReached lease (master_of rows (record { lease = lease; limits = limits }) up)
up_reached cell rows limits lease up fits k =
    let s = master_of rows (record { lease = lease; limits = limits }) up in
    record {
      cell = cell;
      rows = rows;
      kept = k;
      is_lease = refl;
      fits = fits;
      answerable = record {
        live = λ client name held. nothing_held held;
        asked = λ client name held waits aside. nothing_held held;
        unacked = λ client name number tally is found. absurd (cc);
        within = λ client tally found.
            let t = session_in (session_of s.sessions client) tally found in
            let P : Tally → Type 0 = λ x. x.acknowledged ≤ x.issued in
            subst P t.2 (each_taken (λ q session. session.invalidations.acknowledged ≤ session.invalidations.issued) up (λ q e. omega arith) rows.sessions client t.0 t.1);
      };
      timely = λ client session found. each_taken (IsTimely up) up (timely_up up) rows.sessions client session found;
    }

pub reached : (lease up : ℕ) (steps : List MasterStep) (s : MasterState) → HasComeUp lease up steps s → IsReached lease s
reached lease up steps s h =
    subst (IsReached lease) (sym h.is) (by_steps lease (master_of h.rows (record { lease = lease; limits = h.limits }) up) steps h.of_clients (up_reached h.cell h.rows h.limits lease up h.is_lease h.kept))

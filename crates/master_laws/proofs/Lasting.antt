-- What holds of each client's session over many steps, none of which takes a message of some kind.
use Rattle.std.proofs.Common.{◌≡◌, ℕ, ◌≤◌, List, [], ◌∷◌, Bool, true, false, Ok, Err, refl, sym, ap, subst, arith}
use Rattle.std.specs.Prelude.{◌||◌, max, fold}
use Rattle.std.specs.List.{list_all, list_any}
use Rattle.std.proofs.lemmas.Bool.{and_parts}
use Rattle.tags_cell.specs.Messages.{request_client}
use Rattle.tags_cell.specs.Numbers.{is_client_number}
use Rattle.tags_cell.specs.declared.messages.outs.Reply.{Reply}
use Rattle.tags_cell.specs.declared.messages.requests.Request.{Request}
use Rattle.session_core.specs.declared.records.Session.{Session}
use Rattle.master_parts.specs.declared.notices.SessionEvent.{SessionEvent}
use Rattle.master_parts.specs.declared.pending.Taken.{Taken}
use Rattle.master_state.specs.State.{MasterState}
use Rattle.master_state.specs.Lookups.{noted}
use Rattle.master_state.specs.Notices.{with_tellings}
use Rattle.cell_core.specs.Cases.{TakeCase, taken_by}
use Rattle.cell_core.specs.Step.{take_step}
use Rattle.cell_core.proofs.TakeCases.{taken_case}
use Rattle.over_core.specs.Sweep.{sweep_step, beats_action, beats_step}
use Rattle.over_core.specs.SweepCase.{SweepCase, swept_by}
use Rattle.over_core.proofs.EachSession.{Each}
use Rattle.over_core.proofs.KeptBySweeps.{sessions_ordered}
use Rattle.over_core.proofs.SweepCases.{action_tellings, first_tellings}
use Rattle.master_laws.specs.Closed.{MasterStep, left_by, master_behind}
use Rattle.master_laws.specs.Closed.MasterStep.{Takes, Sweeps, Beats}
use Rattle.master_laws.specs.Waits.{is_of_client, takes_one}
use Rattle.master_laws.proofs.TimedCases.{IsTimed, timed_sweep, timed_beats}
use Rattle.master_laws.proofs.Timely.{clock_by_case, clock_by_sweep}
use Rattle.master_laws.proofs.SessionSteps.{IsCarriedByTakes, IsCarriedBySweeps, each_told, each_by_case, each_by_sweep}
use Rattle.master_laws.proofs.Reached.{IsReached, noted_reached, spare_pushed, by_step}

-- what each step leaves, where it takes no message of the kind
pub record IsLeft (lease : ℕ) (kind : Request → Bool) (C : MasterState → Type 0) : Type 0 where
  pub clock : (s : MasterState) (now : ℕ) → C s → C (noted s now)
  pub takes : (s : MasterState) (request : Request) (c : TakeCase s request) → IsReached lease s → kind request ≡ false → C s → C (taken_by s request c).0
  pub sweeps : (s : MasterState) (c : SweepCase s) → IsReached lease s → C s → C (swept_by s c).0
  pub tells : (s : MasterState) (tellings : List SessionEvent) → C s → C (with_tellings s tellings)

-- what was so before, where it is so after a step
pub record WasBefore (D : MasterState → Type 0) : Type 0 where
  pub clock : (s : MasterState) (now : ℕ) → D (noted s now) → D s
  pub takes : (s : MasterState) (request : Request) (c : TakeCase s request) → D (taken_by s request c).0 → D s
  pub sweeps : (s : MasterState) (c : SweepCase s) → D (swept_by s c).0 → D s
  pub tells : (s : MasterState) (tellings : List SessionEvent) → D (with_tellings s tellings) → D s

-- by the master's clock it holds of each session, also where that goes on
pub record IsLasting (lease : ℕ) (kind : Request → Bool) (P : ℕ → ℕ → Session Reply → Type 0) (C D : MasterState → Type 0) : Type 0 where
  pub later : (from to q : ℕ) (session : Session Reply) → from ≤ to → P from q session → P to q session
  pub left : IsLeft lease kind C
  pub was : WasBefore D
  pub takes : (s : MasterState) (request : Request) → IsReached lease s → kind request ≡ false → IsCarriedByTakes (P s.clock) s request
  pub sweeps : (s : MasterState) → IsReached lease s → C s → D s → IsCarriedBySweeps (P s.clock) s

pub record Lasts (lease : ℕ) (P : ℕ → ℕ → Session Reply → Type 0) (C D : MasterState → Type 0) (s : MasterState) : Type 0 where
  pub reached : IsReached lease s
  pub left : C s
  pub each : D s → Each (P s.clock) s.sessions

later_clock : (a b : ℕ) → a ≤ max a b
later_clock a b = omega arith

or_parts : (a b : Bool) → (a || b) ≡ false → (a ≡ false) × (b ≡ false)
or_parts true b h = absurd (cc)
or_parts false b h = (refl, h)

module _ (lease : ℕ) (kind : Request → Bool) (P : ℕ → ℕ → Session Reply → Type 0) (C D : MasterState → Type 0) (l : IsLasting lease kind P C D) where
  noted_lasts : (s : MasterState) (now : ℕ) → Lasts lease P C D s → Lasts lease P C D (noted s now)
  noted_lasts s now h = record {
    reached = noted_reached lease s now h.reached;
    left = l.left.clock s now h.left;
    each = λ d q session found. l.later s.clock (max s.clock now) q session (later_clock s.clock now) (h.each (l.was.clock s now d) q session found);
  }

  by_take : (s : MasterState) (now : ℕ) (request : Request) → is_client_number (request_client request) ≡ true → kind request ≡ false → IsReached lease (left_by s (take_step s now request)) → Lasts lease P C D s → Lasts lease P C D (left_by s (take_step s now request))
  by_take s now request in_range other after h =
      (elim (take_step s now request) as (λ x. take_step s now request ≡ x → IsReached lease (left_by s x) → Lasts lease P C D (left_by s x)) [
        | Ok done ↦ (λ step reached.
            let there = noted s now in
            let n = noted_lasts s now h in
            let c = taken_case s done.0 now request done.1 step in
            let after = (taken_by there request c.0).0 in
            let is : done.0 ≡ after = ap (λ (p : MasterState × Taken). p.0) c.1 in
            let U : ℕ → Type 0 = λ t. Each (P t) after.sessions in
            let T : MasterState → Type 0 = λ m. Each (P m.clock) m.sessions in
            record {
              reached = reached;
              left = subst C (sym is) (l.left.takes there request c.0 n.reached other n.left);
              each = λ d. subst T (sym is) (subst U (sym (clock_by_case there request c.0)) (each_by_case (P there.clock) n.reached.cell n.reached.rows there request c.0 (l.takes there request n.reached other) (spare_pushed lease s done.0 now request done.1 step) n.reached.kept in_range (n.each (l.was.takes there request c.0 (subst D is d)))));
            })
        | Err fault ↦ (λ step reached. h)
      ]) refl after

  by_case : (s : MasterState) (c : SweepCase s) (tellings : List SessionEvent) (new : MasterState) → IsTimed s c → new ≡ with_tellings (swept_by s c).0 tellings → IsReached lease new → Lasts lease P C D s → Lasts lease P C D new
  by_case s c tellings new timed is reached h =
      let after = (swept_by s c).0 in
      let U : ℕ → Type 0 = λ t. Each (P t) (with_tellings after tellings).sessions in
      let T : MasterState → Type 0 = λ m. Each (P m.clock) m.sessions in
      record {
        reached = reached;
        left = subst C (sym is) (l.left.tells after tellings (l.left.sweeps s c h.reached h.left));
        each = λ d.
            let before : D s = l.was.sweeps s c (l.was.tells after tellings (subst D is d)) in
            let carried = l.sweeps s h.reached h.left before in
            subst T (sym is) (subst U (sym (clock_by_sweep s c)) (each_told (P s.clock) after tellings carried.carried (each_by_sweep (P s.clock) h.reached.cell h.reached.rows s c timed carried h.reached.kept (h.each before))));
      }

  by_swept : (s : MasterState) (now : ℕ) → IsReached lease (left_by s (sweep_step s now)) → Lasts lease P C D s → Lasts lease P C D (left_by s (sweep_step s now))
  by_swept s now after h =
      (elim (sweep_step s now) as (λ x. sweep_step s now ≡ x → IsReached lease (left_by s x) → Lasts lease P C D (left_by s x)) [
        | Ok done ↦ (λ step reached.
            let there = noted s now in
            let c = timed_sweep s now done (sessions_ordered h.reached.cell h.reached.rows s h.reached.kept) h.reached.kept.orderly step in
            by_case there c.0 (first_tellings there) done.0 c.1 c.2 reached (noted_lasts s now h))
        | Err fault ↦ (λ step reached. h)
      ]) refl after

  by_beats : (s : MasterState) (now : ℕ) → IsReached lease (left_by s (beats_step s now)) → Lasts lease P C D s → Lasts lease P C D (left_by s (beats_step s now))
  by_beats s now after h =
      (elim (beats_step s now) as (λ x. beats_step s now ≡ x → IsReached lease (left_by s x) → Lasts lease P C D (left_by s x)) [
        | Ok done ↦ (λ step reached.
            let there = noted s now in
            let c = timed_beats s now done (sessions_ordered h.reached.cell h.reached.rows s h.reached.kept) step in
            by_case there c.0 (action_tellings there (beats_action there)) done.0 c.1 c.2 reached (noted_lasts s now h))
        | Err fault ↦ (λ step reached. h)
      ]) refl after

  one_step : (s : MasterState) (step : MasterStep) → is_of_client step ≡ true → takes_one kind step ≡ false → Lasts lease P C D s → Lasts lease P C D (master_behind s step)
  one_step s (Takes now request) in_range other h = by_take s now request in_range other (by_step lease s (Takes now request) in_range h.reached) h
  one_step s (Sweeps now) in_range other h = by_swept s now (by_step lease s (Sweeps now) in_range h.reached) h
  one_step s (Beats now) in_range other h = by_beats s now (by_step lease s (Beats now) in_range h.reached) h

  pub lasts : (s : MasterState) (steps : List MasterStep) → list_all is_of_client steps ≡ true → list_any (takes_one kind) steps ≡ false → Lasts lease P C D s → Lasts lease P C D (fold master_behind s steps)
  lasts s [] all none h = h
  lasts s (step ∷ steps) all none h =
      let t = and_parts (is_of_client step) (list_all is_of_client steps) all in
      let u = or_parts (takes_one kind step) (list_any (takes_one kind) steps) none in
      lasts (master_behind s step) steps t.1 u.1 (one_step s step t.0 u.0 h)

-- A client number below the mark that has no session gets none any more.
use Rattle.std.proofs.Common.{◌≡◌, ℕ, ◌≤◌, List, [], ◌∷◌, true, false, Option, Some, None, Result, Ok, Err, refl, sym, ap, ◌∙◌, subst, arith}
use Rattle.std.specs.Prelude.{not, nat_lt, fold}
use Rattle.std.specs.Option.{option_map_or}
use Rattle.std.specs.List.{list_all}
use Rattle.std.proofs.lemmas.Bool.{and_parts}
use Rattle.std.proofs.lemmas.Bool.Decides.{nat_tests}
use Rattle.node_core.specs.Nodes.{with_parent}
use Rattle.node_core.specs.declared.refusals.Fault.{Fault}
use Rattle.tags_cell.specs.Messages.{request_client}
use Rattle.tags_cell.specs.Numbers.{is_client_number}
use Rattle.tags_cell.specs.declared.messages.outs.Reply.{Reply}
use Rattle.tags_cell.specs.declared.messages.requests.Request.{Request}
use Rattle.session_core.specs.declared.records.Session.{Session}
use Rattle.session_core.specs.Sessions.{SessionTable, session_of as session_in}
use Rattle.master_parts.specs.declared.handles.HandleNote.{HandleNote}
use Rattle.master_parts.specs.declared.notices.SessionEvent.{SessionEvent}
use Rattle.master_parts.specs.declared.pending.Taken.{Taken}
use Rattle.master_parts.specs.declared.pending.Task.TheVariants as tasks
use Rattle.master_state.specs.State.{MasterState}
use Rattle.master_state.specs.Departed.{first_due}
use Rattle.master_state.specs.Lookups.{retiring, noted}
use Rattle.master_state.specs.Notices.{with_tellings}
use Rattle.master_state.specs.Updates.{with_note, with_locks, raised}
use Rattle.cell_core.specs.Outcomes.{left_put}
use Rattle.cell_core.specs.Step.{queued, recorded, asking, asking_for, take_step}
use Rattle.cell_core.specs.Cases.{taken_by}
use Rattle.cell_core.proofs.TakeCases.{taken_case}
use Rattle.over_core.specs.declared.swept.Swept.{Swept}
use Rattle.over_core.specs.Kept.{IsKept}
use Rattle.over_core.specs.Sweep.{sweep_step, beats_step, beats_action}
use Rattle.over_core.specs.SweepCase.{SweepCase, rest, mapped, swept_by}
use Rattle.over_core.specs.SweepCase.SweepCase.{Tidies, Started, Ended, Applied, Left}
use Rattle.over_core.proofs.EachSession.{Each}
use Rattle.over_core.proofs.KeptBySweeps.{sessions_ordered}
use Rattle.over_core.proofs.KeptByTakes.{taken_kept}
use Rattle.over_core.proofs.Retired.{is_gone}
use Rattle.over_core.proofs.SweepCases.{action_tellings, first_tellings}
use Rattle.master_laws.specs.Closed.{MasterStep, left_by, master_behind}
use Rattle.master_laws.specs.Closed.MasterStep.{Takes, Sweeps, Beats}
use Rattle.master_laws.specs.Waits.{is_of_client}
use Rattle.master_laws.specs.Forgotten.{IsForgotten, ForgottenForever, EndedGoAlone}
use Rattle.master_laws.proofs.Reached.{IsReached, noted_reached, spare_pushed, by_step, reached}
use Rattle.master_laws.proofs.SessionSteps.{IsCarried, IsCarriedByTakes, IsCarriedBySweeps, each_told, each_by_case, each_by_sweep}
use Rattle.master_laws.proofs.TimedCases.{IsTimed, timed_sweep, timed_beats}

-- ---- no session is of this client

abbrev Absent : ℕ → ℕ → Session Reply → Type 0
Absent client other session = other ≡ client → ⊥

none_each : (table : SessionTable Reply) (client : ℕ) → session_in table client ≡ None → Each (Absent client) table
none_each table client none = λ q session found same. let own : session_in table client ≡ Some session = subst (λ n. session_in table n ≡ Some session) same found in absurd (cc)

each_none : (table : SessionTable Reply) (client : ℕ) → Each (Absent client) table → session_in table client ≡ None
each_none table client h =
    (elim (session_in table client) as (λ (o : Option (Session Reply)). session_in table client ≡ o → o ≡ None) [
      | None ↦ (λ is. refl)
      | Some session ↦ (λ is. absurd (h client session is refl))
    ]) refl

absent_carried : (client : ℕ) → IsCarried (Absent client)
absent_carried client = record { keeps = λ q kept before h. h; issues = λ q o before h. h; tells = λ q event before h. h }

absent_taken : (s : MasterState) (request : Request) (client : ℕ) → IsCarriedByTakes (Absent client) s request
absent_taken s request client = record { carried = absent_carried client; beats = λ beat before is found fits h. h }

-- a session begins under no number below the mark
absent_swept : (s : MasterState) (client : ℕ) → nat_lt client s.ended_below ≡ true → IsCarriedBySweeps (Absent client) s
absent_swept s client late = record {
  carried = absent_carried client;
  ends = λ q before h. h;
  answers = λ q session beat due in_time h. h;
  prolongs = λ front back asked principal received session turn work found h. h;
  begins = λ front back asked principal received turn work none same.
      let early : nat_lt client s.ended_below ≡ false = subst (λ n. nat_lt n s.ended_below ≡ false) same none.1 in
      let both : true ≡ false = sym late ∙ early in cc;
}

-- ---- the mark doesn't fall

least : (n : ℕ) → n ≤ n
least n = omega arith

no_less : (n m : ℕ) → m ≡ n → n ≤ m
no_less n m h = omega (arith, h)

raised_more : (n : ℕ) (gone : Option ℕ) → n ≤ raised n gone
raised_more n None = omega arith
raised_more n (Some client) = omega arith

still_late : (client a b : ℕ) → nat_lt client a ≡ true → a ≤ b → nat_lt client b ≡ true
still_late client a b late more = grind (arith, nat_tests, late, more)

mark_noted : (s : MasterState) (note : Option HandleNote) → (with_note s note).ended_below ≡ s.ended_below
mark_noted s None = refl
mark_noted s (Some note) = refl

mark_asked : (names : List (List ℕ)) (s : MasterState) → (asking_for s names).ended_below ≡ s.ended_below
mark_asked [] s = refl
mark_asked (name ∷ names) s = mark_asked names (asking s name)

raised_by_sweep : (s : MasterState) (c : SweepCase s) → s.ended_below ≤ (swept_by s c).0.ended_below
raised_by_sweep s (Started front back asked principal received turn work none) = raised_more s.ended_below (retiring s)
raised_by_sweep s (Tidies idle due) = no_less _ _ (mark_asked (with_parent idle.name) (queued s (with_parent idle.name) (tasks.Tidies idle)))
raised_by_sweep s (Ended front back asked call sequencer note answer turn work stays live made) = no_less _ _ (mark_noted (recorded (rest s front back) asked.client _) note)
raised_by_sweep s (Applied front back asked call sequencer note change answer turn work stays live made) = no_less _ _ (mark_noted (recorded (mapped (rest s front back) change) asked.client _) note)
raised_by_sweep s (Left front back asked call sequencer note leave answer turn work stays live made) =
    no_less _ _ (mark_noted (recorded (with_locks (rest s front back) (left_put leave ∷ [])) asked.client _) note)
raised_by_sweep s _ = least s.ended_below

-- ---- each step

module _ (lease client : ℕ) where
  case_forgotten : (s : MasterState) (c : SweepCase s) (tellings : List SessionEvent) → IsTimed s c → IsReached lease s → IsForgotten s client → IsForgotten (with_tellings (swept_by s c).0 tellings) client
  case_forgotten s c tellings timed r f =
      let after : MasterState = (swept_by s c).0 in
      let each = each_told (Absent client) after tellings (absent_carried client)
      (each_by_sweep (Absent client) r.cell r.rows s c timed (absent_swept s client f.1) r.kept (none_each s.sessions client f.0)) in
      (each_none (with_tellings after tellings).sessions client each, still_late client s.ended_below after.ended_below f.1 (raised_by_sweep s c))

  by_take : (s : MasterState) (now : ℕ) (request : Request) → is_client_number (request_client request) ≡ true → IsReached lease s → IsForgotten s client → IsForgotten (left_by s (take_step s now request)) client
  by_take s now request in_range r f =
      (elim (take_step s now request) as (λ (x : Result (MasterState × Taken) Fault). take_step s now request ≡ x → IsForgotten (left_by s x) client) [
        | Ok done ↦ (λ h.
            let there : MasterState = noted s now in
            let n = noted_reached lease s now r in
            let c = taken_case s done.0 now request done.1 h in
            let is : done.0 ≡ (taken_by there request c.0).0 = ap (λ (p : MasterState × Taken). p.0) c.1 in
            let kept : IsKept r.cell r.rows done.0 = taken_kept r.cell r.rows s done.0 now request (Ok done.1) r.kept in_range h tt in
            let each = each_by_case (Absent client) n.cell n.rows there request c.0 (absent_taken there request client) (spare_pushed lease s done.0 now request done.1 h) n.kept in_range (none_each there.sessions client f.0) in
            let none : session_in (taken_by there request c.0).0.sessions client ≡ None = each_none (taken_by there request c.0).0.sessions client each in (
              subst (λ (m : MasterState). session_in m.sessions client ≡ None) (sym is) none,
              ap (λ n. nat_lt client n) (kept.ended_below ∙ sym r.kept.ended_below) ∙ f.1,
            ))
        | Err fault ↦ (λ h. f)
      ]) refl

  by_sweep : (s : MasterState) (now : ℕ) → IsReached lease s → IsForgotten s client → IsForgotten (left_by s (sweep_step s now)) client
  by_sweep s now r f =
      (elim (sweep_step s now) as (λ (x : Result (MasterState × Swept) Fault). sweep_step s now ≡ x → IsForgotten (left_by s x) client) [
        | Ok done ↦ (λ h.
            let there : MasterState = noted s now in
            let c = timed_sweep s now done (sessions_ordered r.cell r.rows s r.kept) r.kept.orderly h in
            subst (λ (m : MasterState). IsForgotten m client) (sym c.2) (case_forgotten there c.0 (first_tellings there) c.1 (noted_reached lease s now r) f))
        | Err fault ↦ (λ h. f)
      ]) refl

  by_beats : (s : MasterState) (now : ℕ) → IsReached lease s → IsForgotten s client → IsForgotten (left_by s (beats_step s now)) client
  by_beats s now r f =
      (elim (beats_step s now) as (λ (x : Result (MasterState × Swept) Fault). beats_step s now ≡ x → IsForgotten (left_by s x) client) [
        | Ok done ↦ (λ h.
            let there : MasterState = noted s now in
            let c = timed_beats s now done (sessions_ordered r.cell r.rows s r.kept) h in
            subst (λ (m : MasterState). IsForgotten m client) (sym c.2) (case_forgotten there c.0 (action_tellings there (beats_action there)) c.1 (noted_reached lease s now r) f))
        | Err fault ↦ (λ h. f)
      ]) refl

  one_step : (s : MasterState) (step : MasterStep) → is_of_client step ≡ true → IsReached lease s → IsForgotten s client → IsForgotten (master_behind s step) client
  one_step s (Takes now request) in_range r f = by_take s now request in_range r f
  one_step s (Sweeps now) in_range r f = by_sweep s now r f
  one_step s (Beats now) in_range r f = by_beats s now r f

  all_steps : (s : MasterState) (steps : List MasterStep) → list_all is_of_client steps ≡ true → IsReached lease s → IsForgotten s client → IsForgotten (fold master_behind s steps) client
  all_steps s [] all r f = f
  all_steps s (step ∷ steps) all r f =
      let t = and_parts (is_of_client step) (list_all is_of_client steps) all in
      all_steps (master_behind s step) steps t.1 (by_step lease s step t.0 r) (one_step s step t.0 r f)

pub forgotten_stay_forgotten : ForgottenForever
forgotten_stay_forgotten lease up client before steps s h all f = all_steps lease client s steps all (reached lease up before s h) f

-- ---- who goes

pub who_goes_has_ended : EndedGoAlone
who_goes_has_ended s client is =
    let gone = is_gone s (first_due s.departed) client is in
    (ap (λ (o : Option (Session Reply)). option_map_or (λ (x : Session Reply). not x.live) o false) gone.found ∙ ap not gone.ended, gone.quiet)

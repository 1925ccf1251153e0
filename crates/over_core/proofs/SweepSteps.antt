-- What a sweep's parts do together.
use Rattle.std.proofs.Common.{◌≡◌, ℕ, List, [], ◌∷◌, Bool, true, false, cond, None, Result, Ok, Err, refl, sym, ap, subst, ◌∙◌}
use Rattle.std.specs.List.{filter_map}
use Rattle.node_core.specs.declared.refusals.Fault.{Fault}
use Rattle.node_core.specs.declared.refusals.Fault.TheVariants as faults
use Rattle.master_parts.specs.declared.handles.HandleKey.{HandleKey}
use Rattle.master_parts.specs.declared.handles.HandleState.{HandleState}
use Rattle.master_parts.specs.declared.handles.HandleState.TheVariants as states
use Rattle.master_parts.specs.declared.pending.Orphan.{Orphan}
use Rattle.cell_core.specs.Ephemerals.{tidied}
use Rattle.master_state.specs.State.{MasterState}
use Rattle.master_state.specs.Lookups.{noted}
use Rattle.master_state.specs.Notices.{telling_by}
use Rattle.over_core.specs.declared.actions.Action.{Action}
use Rattle.over_core.specs.declared.actions.Action.TheVariants.{Tidy}
use Rattle.over_core.specs.declared.swept.Swept.{Swept}
use Rattle.over_core.specs.Plans.{tellings_of, first_action, no_plan}
use Rattle.over_core.specs.Sweep.{telling, swept, is_over, sweep_step, beats_answered, beats_step}

-- of nothing nobody is told
tells_nobody : (s : MasterState) (handles : List (HandleKey × HandleState)) → filter_map (telling_by s None []) handles ≡ []
tells_nobody s [] = refl
tells_nobody s ((key, state) ∷ handles) = elim state as (λ x. filter_map (telling_by s None []) ((key, x) ∷ handles) ≡ []) [ states.Open noted ↦ tells_nobody s handles | states.Closed ↦ tells_nobody s handles ]

none_told : (s : MasterState) → tellings_of s no_plan ≡ []
none_told s = tells_nobody s s.handles

-- the deletion of an ephemeral node is queued, and nobody is told
pub tidied_first : (s new : MasterState) (idle : Orphan) (result : Swept) → Tidy idle ≡ first_action s → new ≡ tidied s idle → result ≡ record { lines = []; outs = []; quiet = false } → swept s (first_action s) ≡ (new, result)
tidied_first s new idle result first queued printed =
    let pair : MasterState → Swept → MasterState × Swept = λ m r. (m, r) in
    let P : Action → Type 0 = λ a. swept s a ≡ (new, result) in
    subst P first (
    ap (λ ts. telling ts (tidied s idle, record { lines = []; outs = []; quiet = false })) (none_told s)
    ∙ ap (λ m. pair m (record { lines = []; outs = []; quiet = false })) (sym queued)
    ∙ ap (pair new) (sym printed)
    )

-- the moment is noted first
pub stepped : (s there new : MasterState) (now : ℕ) (over : Bool) (result : Swept) → over ≡ is_over s now → over ≡ false → there ≡ noted s now → swept there (first_action there) ≡ (new, result) → sweep_step s now ≡ Ok (new, result)
unfolding sweep_step
stepped s there new now over result is going moment h =
    let P : MasterState → Type 0 = λ m. swept m (first_action m) ≡ (new, result) in
    let ends : swept (noted s now) (first_action (noted s now)) ≡ (new, result) = subst P moment h in
    ap (λ b. cond {A = Result (MasterState × Swept) Fault} b (Err faults.Exhausted) (Ok (swept (noted s now) (first_action (noted s now))))) (sym is ∙ going) ∙ ap Ok ends

-- the same of what is answered while the store refuses
pub answered_so : (s there new : MasterState) (now : ℕ) (over : Bool) (result : Swept) → over ≡ is_over s now → over ≡ false → there ≡ noted s now → beats_answered there ≡ (new, result) → beats_step s now ≡ Ok (new, result)
unfolding beats_step
answered_so s there new now over result is going moment h =
    let P : MasterState → Type 0 = λ m. beats_answered m ≡ (new, result) in
    let ends : beats_answered (noted s now) ≡ (new, result) = subst P moment h in
    ap (λ b. cond {A = Result (MasterState × Swept) Fault} b (Err faults.Exhausted) (Ok (beats_answered (noted s now)))) (sym is ∙ going) ∙ ap Ok ends

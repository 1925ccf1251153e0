-- What a cell's methods say of the step of an event.
use Rattle.std.proofs.Common.{◌≡◌, ◌≢◌, ◌⊎◌, inl, inr, ℕ, List, [], ◌∷◌, Bool, true, false, cond, Result, Ok, Err, refl, sym, ap, ◌∙◌, subst}
use Rattle.std.specs.Prelude.{◌||◌, IfOk, IfErr}
use Rattle.node_core.specs.declared.refusals.Fault.{Fault}
use Rattle.node_core.specs.declared.refusals.Fault.TheVariants as faults
use Rattle.tags_cell.specs.declared.messages.requests.Request.{Request}
use Rattle.rows_cell.specs.declared.tables.Rows.{Rows}
use Rattle.rows_cell.specs.declared.tables.Edit.{Edit}
use Rattle.rows_cell.specs.Stores.{MayRefuse, StoreRefuses}
use Rattle.rights_core.specs.Grants.{Tells}
use Rattle.master_parts.specs.declared.pending.Taken.{Taken}
use Rattle.master_state.specs.State.{MasterState}
use Rattle.master_state.specs.Lookups.{noted, is_spent}
use Rattle.cell_core.specs.Step.{take_step, take_at, is_past_end}
use Rattle.over_core.specs.declared.swept.Swept.{Swept}
use Rattle.over_core.specs.Kept.{CellState, IsKept}
use Rattle.over_core.specs.Sweep.{IsSwept, IsHeldUp, MayHoldUp, sweep_step, sweep_edits, sweep_frees, swept_as, swept, is_over}
use Rattle.over_core.specs.Plans.{first_action}
use Rattle.over_core.proofs.StepsTell.{taken_tells, swept_tells}
use Rattle.over_core.specs.declared.sweeps.SweptThrice.{SweptThrice}
use Rattle.watch_cell.specs.declared.events.WatchEvent.{WatchEvent}
use Rattle.watch_cell.specs.declared.events.WatchEvent.TheVariants.{Take, Sweep}
use Rattle.watch_cell.specs.Views.{WatchedState, watched}
use Rattle.watch_cell.specs.Trail.{after_take, after_sweep, step_of, StepRefuses}

-- ---- a message that was taken

pub take_is : (old new : CellState) (now : ℕ) (request : Request) (taken : Taken) → take_step old.master now request ≡ Ok (new.master, taken) → new ≡ record old { master = new.master } → step_of (watched old) (Take now request) ≡ Ok (watched new, swept_as taken false)
unfolding step_of
take_is old new now request taken is same =
    let rows : new.store.rows ≡ old.store.rows = ap (λ (c : CellState). c.store.rows) same in
    ap (after_take (watched old)) is ∙ ap (λ (r : Rows). Ok (record { master = new.master; rows = r }, swept_as taken false)) (sym rows)

pub take_tells : (old new : CellState) (now : ℕ) (request : Request) (taken : Taken) → IsKept old.store.cell old.store.rows old.master → take_step old.master now request ≡ Ok (new.master, taken) → Tells old.master.rights taken.lines new.master.rights
take_tells old new now request taken kept is = taken_tells old.master new.master now request taken kept.recorded is

pub take_not_full : (s : MasterState) (now : ℕ) (request : Request) (e : Fault) → (e ≢ faults.NoMemory → take_step s now request ≡ Err e) → e ≢ faults.WatchFull
unfolding take_step
take_not_full s now request e h is =
    let other : e ≢ faults.NoMemory = λ k. cc in
    (elim (is_past_end now || is_spent s) as (λ b. cond {A = Result (MasterState × Taken) Fault} b (Err faults.Exhausted) (Ok (take_at (noted s now) request)) ≡ Err e → ⊥) [
      | true ↦ (λ k. cc)
      | false ↦ (λ k. cc)
    ]) (h other)

-- ---- a sweep that was made

pub sweep_is : (old new : CellState) (now : ℕ) (done : Swept) → sweep_step old.master now ≡ Ok (new.master, done) → IsSwept (sweep_frees old.master now) (sweep_edits old.master now) old.store new.store → step_of (watched old) (Sweep now) ≡ Ok (watched new, done)
unfolding step_of
sweep_is old new now done is committed =
    ap (after_sweep (watched old) (sweep_edits old.master now)) is ∙ ap (λ (r : Rows). Ok (record { master = new.master; rows = r }, done)) (sym committed.rows)

pub sweep_tells : (old new : CellState) (now : ℕ) (done : Swept) → IsKept old.store.cell old.store.rows old.master → sweep_step old.master now ≡ Ok (new.master, done) → Tells old.master.rights done.lines new.master.rights
sweep_tells old new now done kept is = swept_tells old.store.cell old.store.rows old.master new.master now done kept is

same_state : (m n : MasterState) (r q : Rows) → m ≡ n → r ≡ q → ◌≡◌ {A = WatchedState} (record { master = m; rows = r }) (record { master = n; rows = q })
same_state m n r q h k = rw (h, k) refl

pub sweep_same : (old new : CellState) (now : ℕ) (e : Fault) → new.master ≡ old.master → (sweep_step old.master now ≡ Err e × new ≡ old) ⊎ IsHeldUp e (sweep_frees old.master now) (sweep_edits old.master now) old.store new.store → watched new ≡ watched old
sweep_same old new now e same (inl p) = ap watched p.1
sweep_same old new now e same (inr r) = same_state new.master old.master new.store.rows old.store.rows same r.rows

refused_not_full : (edits : List Edit) (e : Fault) (before after : ℕ) → MayRefuse edits e before after → e ≢ faults.WatchFull
refused_not_full [] e before after w is = let none : e ≡ faults.NoMemory = w.0 in cc
refused_not_full (edit ∷ edits) e before after w is = subst (λ (f : Fault). StoreRefuses f before after) is w

held_not_full : (freed : Bool) (edits : List Edit) (e : Fault) (before after : ℕ) → MayHoldUp freed edits e before after → e ≢ faults.WatchFull
held_not_full true edits e before after w is = subst (λ (f : Fault). StoreRefuses f before after) is w
held_not_full false edits e before after w is = refused_not_full edits e before after w is

stepped_not_full : (s : MasterState) (now : ℕ) (e : Fault) → sweep_step s now ≡ Err e → e ≢ faults.WatchFull
unfolding sweep_step
stepped_not_full s now e h is =
    (elim (is_over s now) as (λ b. cond {A = Result (MasterState × Swept) Fault} b (Err faults.Exhausted) (Ok (swept (noted s now) (first_action (noted s now)))) ≡ Err e → ⊥) [
      | true ↦ (λ k. cc)
      | false ↦ (λ k. cc)
    ]) h

pub sweep_not_full : (old new : CellState) (now : ℕ) (e : Fault) → (sweep_step old.master now ≡ Err e × new ≡ old) ⊎ IsHeldUp e (sweep_frees old.master now) (sweep_edits old.master now) old.store new.store → e ≢ faults.WatchFull
sweep_not_full old new now e (inl p) = stepped_not_full old.master now e p.0
sweep_not_full old new now e (inr r) = held_not_full (sweep_frees old.master now) (sweep_edits old.master now) e old.store.refusals new.store.refusals r.why

-- of a sweep that may be refused
pub swept_tells_so : (old new : CellState) (now : ℕ) (result : Result SweptThrice Fault) → IsKept old.store.cell old.store.rows old.master → IfOk result (λ t. sweep_step old.master now ≡ Ok (new.master, swept_as t.answers t.quiet)) → IfOk result (λ t. Tells old.master.rights t.answers.lines new.master.rights)
swept_tells_so old new now (Ok t) kept is = sweep_tells old new now (swept_as t.answers t.quiet) kept is
swept_tells_so old new now (Err e) kept is = tt

pub swept_not_full : (old new : CellState) (now : ℕ) (result : Result SweptThrice Fault) → IfErr result (λ e. (sweep_step old.master now ≡ Err e × new ≡ old) ⊎ IsHeldUp e (sweep_frees old.master now) (sweep_edits old.master now) old.store new.store) → IfErr result (λ e. e ≢ faults.WatchFull)
swept_not_full old new now (Ok t) h = tt
swept_not_full old new now (Err e) h = sweep_not_full old new now e h

-- ---- why it is refused

take_err : (old : CellState) (now : ℕ) (request : Request) (e : Fault) → take_step old.master now request ≡ Err e → step_of (watched old) (Take now request) ≡ Err e
unfolding step_of
take_err old now request e is = ap (after_take (watched old)) is

sweep_err : (old : CellState) (now : ℕ) (e : Fault) → sweep_step old.master now ≡ Err e → step_of (watched old) (Sweep now) ≡ Err e
unfolding step_of
sweep_err old now e is = ap (after_sweep (watched old) (sweep_edits old.master now)) is

take_refused_by : (old : CellState) (now : ℕ) (request : Request) (e : Fault) (after : ℕ) → after ≡ old.store.refusals → (e ≢ faults.NoMemory → take_step old.master now request ≡ Err e)
    → StepRefuses (watched old) (Take now request) e old.store.refusals after
take_refused_by old now request faults.NoMemory after same h = inl (refl, same)
take_refused_by old now request e after same h = inr (inl (take_err old now request e (h (λ k. cc)), same))

pub take_refused : (old new : CellState) (event : WatchEvent) (now : ℕ) (request : Request) (e : Fault) → event ≡ Take now request → new ≡ old → (e ≢ faults.NoMemory → take_step old.master now request ≡ Err e)
    → StepRefuses (watched old) event e old.store.refusals new.store.refusals
take_refused old new event now request e is same h =
    subst (λ (v : WatchEvent). StepRefuses (watched old) v e old.store.refusals new.store.refusals) (sym is) (take_refused_by old now request e new.store.refusals (ap (λ (c : CellState). c.store.refusals) same) h)

sweep_refused : (old new : CellState) (now : ℕ) (e : Fault) → (sweep_step old.master now ≡ Err e × new ≡ old) ⊎ IsHeldUp e (sweep_frees old.master now) (sweep_edits old.master now) old.store new.store
    → StepRefuses (watched old) (Sweep now) e old.store.refusals new.store.refusals
sweep_refused old new now e (inl p) = inr (inl (sweep_err old now e p.0, ap (λ (c : CellState). c.store.refusals) p.1))
sweep_refused old new now e (inr r) = inr (inr r.why)

pub swept_refused : (old new : CellState) (event : WatchEvent) (now : ℕ) (result : Result SweptThrice Fault) → event ≡ Sweep now → IfErr result (λ e. (sweep_step old.master now ≡ Err e × new ≡ old) ⊎ IsHeldUp e (sweep_frees old.master now) (sweep_edits old.master now) old.store new.store)
    → IfErr result (λ e. StepRefuses (watched old) event e old.store.refusals new.store.refusals)
swept_refused old new event now (Ok t) is h = tt
swept_refused old new event now (Err e) is h = subst (λ (v : WatchEvent). StepRefuses (watched old) v e old.store.refusals new.store.refusals) (sym is) (sweep_refused old new now e h)

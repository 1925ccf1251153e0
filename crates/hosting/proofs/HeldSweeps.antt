-- Sweeps of a master whose changes are held back.
use Rattle.std.proofs.Common.{◌≡◌, inl, inr, ℕ, List, true, false, Result, cond, refl, sym, ap, subst, ◌∙◌}
use Rattle.std.specs.Prelude.{◌⊎◌, Ok, Err}
use Rattle.node_core.specs.declared.refusals.Fault.{Fault}
use Rattle.node_core.specs.declared.refusals.Fault.TheVariants.{NoMemory, Exhausted}
use Rattle.rows_cell.specs.declared.tables.Edit.{Edit}
use Rattle.master_state.specs.State.{MasterState}
use Rattle.over_core.specs.declared.swept.Swept.{Swept}
use Rattle.over_core.specs.Plans.{first_action}
use Rattle.over_core.specs.Sweep.{is_over, swept, sweep_step, sweep_edits, sweep_frees, IsSwept, IsHeldUp}
use Rattle.over_core.proofs.Settled.{unasked}
use Rattle.master_state.specs.Lookups.{noted}
use Rattle.hosting.specs.Held.{GroupState, ground, store_behind, seen}
use Rattle.hosting.specs.Pieces.{all_held, held_with}
use Rattle.hosting.specs.declared.pieces.GroupLimits.{GroupLimits}
use Rattle.hosting.proofs.PieceLaws.{held_limits}
use Rattle.hosting.specs.Serving.{SweepsOnce, StopsAt, is_shut}
use Rattle.hosting.specs.declared.settling.End.TheVariants.{Refused}

pub held_once : (now : ℕ) (old new : GroupState) (swept : Swept) → sweep_step old.master now ≡ Ok (new.master, swept)
    → IsSwept (sweep_frees old.master now) (sweep_edits old.master now) (seen old).store (seen new).store → SweepsOnce now (seen old) swept (seen new)
held_once now old new swept step committed = record { step = step; committed = committed }

pub store_kept : (old new : GroupState) (edits : List Edit) → new ≡ record old { master = new.master; held = held_with old.held edits } → ground new ≡ ground old
store_kept old new edits is = ap ground is ∙ ap (λ (l : GroupLimits). (old.store, l)) (held_limits old.held edits)

refused_so : (now : ℕ) (old new : GroupState) (fault : Fault) → (sweep_step old.master now ≡ Err fault) ⊎ (fault ≡ NoMemory) → new ≡ old
    → (sweep_step (seen old).master now ≡ Err fault × seen new ≡ seen old) ⊎ IsHeldUp fault (sweep_frees (seen old).master now) (sweep_edits (seen old).master now) (seen old).store (seen new).store
refused_so now old new fault (inl step) same = inl (step, ap seen same)
refused_so now old new fault (inr none) same =
    let P : Fault → Type 0 = λ e. IsHeldUp e (sweep_frees old.master now) (sweep_edits old.master now) (seen old).store (seen new).store in
    let Q : GroupState → Type 0 = λ g. IsHeldUp NoMemory (sweep_frees old.master now) (sweep_edits old.master now) (seen old).store (seen g).store in
    inr (subst P (sym none) (subst Q (sym same) (unasked (sweep_frees old.master now) (sweep_edits old.master now) (seen old).store)))

pub held_refused : (now : ℕ) (old new : GroupState) (fault : Fault) → (sweep_step old.master now ≡ Err fault) ⊎ (fault ≡ NoMemory) → new ≡ old → StopsAt now (seen old) fault (seen new)
held_refused now old new fault why same = record { why = refused_so now old new fault why same; master = ap (λ (g : GroupState). g.master) same }

-- it is no store that refuses it
open_step : (s : MasterState) (now : ℕ) (fault : Fault) → sweep_step s now ≡ Err fault → is_shut (Refused fault) ≡ false
unfolding sweep_step
open_step s now fault h =
    let planned : MasterState × Swept = swept (noted s now) (first_action (noted s now)) in
    (elim (is_over s now) as (λ b. cond {A = Result (MasterState × Swept) Fault} b (Err Exhausted) (Ok planned) ≡ Err fault → is_shut (Refused fault) ≡ false) [
      | true ↦ (λ e.
          let is : Exhausted ≡ fault = cc in
          let P : Fault → Type 0 = λ f. is_shut (Refused f) ≡ false in
          subst P is refl)
      | false ↦ (λ e. cc)
    ]) h

pub open_held : (s : MasterState) (now : ℕ) (fault : Fault) → (sweep_step s now ≡ Err fault) ⊎ (fault ≡ NoMemory) → is_shut (Refused fault) ≡ false
open_held s now fault (inl step) = open_step s now fault step
open_held s now fault (inr none) = ap (λ (f : Fault). is_shut (Refused f)) none

-- a step that holds nothing back
pub seen_store : (old new : GroupState) → new ≡ record old { master = new.master } → (seen new).store ≡ (seen old).store
seen_store old new is = ap (λ (g : GroupState). store_behind g.store (all_held g.held)) is

-- A cell that came up within its limits stays so.
use Rattle.std.proofs.Common.{◌≡◌, ℕ, List, [], ◌∷◌, true, Ok, Err, refl, sym, subst}
use Rattle.std.specs.Prelude.{fold}
use Rattle.std.specs.List.{list_all}
use Rattle.std.proofs.lemmas.Bool.{and_parts}
use Rattle.tags_cell.specs.declared.messages.requests.Request.{Request}
use Rattle.master_state.specs.State.{MasterState, master_of}
use Rattle.cell_core.specs.Step.{take_step}
use Rattle.over_core.specs.Sweep.{sweep_step, beats_step}
use Rattle.over_core.specs.Within.{StaysWithin}
use Rattle.over_core.proofs.Limited.{nothing_else, same_stays, stays_on, masters_stay_within}
use Rattle.master_laws.specs.Closed.{MasterStep, left_by, master_behind}
use Rattle.master_laws.specs.Closed.MasterStep.{Takes, Sweeps, Beats}
use Rattle.master_laws.specs.Limits.{CellsStayWithin}
use Rattle.master_laws.specs.Waits.{is_of_client}
use Rattle.master_laws.proofs.Reached.{IsReached, by_step, up_reached}

stands : (s : MasterState) → StaysWithin s s
stands s = same_stays s s (nothing_else s)

module _ (lease : ℕ) where
  by_take : (s : MasterState) (now : ℕ) (request : Request) → IsReached lease s → StaysWithin s (left_by s (take_step s now request))
  by_take s now request r =
      (elim (take_step s now request) as (λ x. take_step s now request ≡ x → StaysWithin s (left_by s x)) [
        | Ok done ↦ (λ h. (masters_stay_within r.cell r.rows s r.kept).takes done.0 now request done.1 h)
        | Err fault ↦ (λ h. stands s)
      ]) refl

  by_sweep : (s : MasterState) (now : ℕ) → IsReached lease s → StaysWithin s (left_by s (sweep_step s now))
  by_sweep s now r =
      (elim (sweep_step s now) as (λ x. sweep_step s now ≡ x → StaysWithin s (left_by s x)) [
        | Ok done ↦ (λ h. (masters_stay_within r.cell r.rows s r.kept).sweeps done.0 now done.1 h)
        | Err fault ↦ (λ h. stands s)
      ]) refl

  by_beats : (s : MasterState) (now : ℕ) → IsReached lease s → StaysWithin s (left_by s (beats_step s now))
  by_beats s now r =
      (elim (beats_step s now) as (λ x. beats_step s now ≡ x → StaysWithin s (left_by s x)) [
        | Ok done ↦ (λ h. (masters_stay_within r.cell r.rows s r.kept).beats done.0 now done.1 h)
        | Err fault ↦ (λ h. stands s)
      ]) refl

  one_step : (s : MasterState) (step : MasterStep) → IsReached lease s → StaysWithin s (master_behind s step)
  one_step s (Takes now request) r = by_take s now request r
  one_step s (Sweeps now) r = by_sweep s now r
  one_step s (Beats now) r = by_beats s now r

  all_steps : (s : MasterState) (steps : List MasterStep) → list_all is_of_client steps ≡ true → IsReached lease s → StaysWithin s (fold master_behind s steps)
  all_steps s [] all r = stands s
  all_steps s (step ∷ steps) all r =
      let t = and_parts (is_of_client step) (list_all is_of_client steps) all in
      let next = master_behind s step in
      stays_on s next (fold master_behind next steps) (one_step s step r) (all_steps next steps t.1 (by_step lease s step t.0 r))

pub cells_stay_within : CellsStayWithin
cells_stay_within lease up steps s h =
    let first = master_of h.rows (record { lease = lease; limits = h.limits }) up in
    let P : MasterState → Type 0 = StaysWithin first in
    subst P (sym h.is) (all_steps lease first steps h.of_clients (up_reached h.cell h.rows h.limits lease up h.is_lease h.kept))

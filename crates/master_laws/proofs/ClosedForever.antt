-- A handle that was closed for good is so after every list of steps.
use Rattle.std.proofs.Common.{◌≡◌, ℕ, [], ◌∷◌, false, Ok, Err, refl}
use Rattle.std.specs.List.{list_any}
use Rattle.tags_cell.specs.declared.messages.requests.Request.{Request}
use Rattle.tags_cell.specs.declared.handles.Handle.{Handle}
use Rattle.master_parts.specs.Keys.{key_of}
use Rattle.master_state.specs.State.{MasterState}
use Rattle.cell_core.specs.Step.{take_step}
use Rattle.over_core.specs.Sweep.{sweep_step, beats_step}
use Rattle.master_laws.specs.Closed.{asks_to_open, IsClosedForGood, MasterStep, left_by, master_behind, step_opens, ClosedForGoodForever}
use Rattle.master_laws.specs.Closed.MasterStep.{Takes, Sweeps, Beats}
use Rattle.master_laws.proofs.ClosedByMessages.{closed_for_good_by_messages}
use Rattle.master_laws.proofs.ClosedBySweeps.{or_parts, closed_for_good_by_sweeps, closed_by_beats}

by_take : (s : MasterState) (now : ℕ) (request : Request) (handle : Handle) → asks_to_open (key_of handle) request ≡ false → IsClosedForGood s handle → IsClosedForGood (left_by s (take_step s now request)) handle
by_take s now request handle other gone =
    (elim (take_step s now request) as (λ r. take_step s now request ≡ r → IsClosedForGood (left_by s r) handle) [
      | Ok done ↦ (λ h. closed_for_good_by_messages s done.0 now request handle done.1 h other gone)
      | Err fault ↦ (λ h. gone)
    ]) refl

by_sweep : (s : MasterState) (now : ℕ) (handle : Handle) → IsClosedForGood s handle → IsClosedForGood (left_by s (sweep_step s now)) handle
by_sweep s now handle gone =
    (elim (sweep_step s now) as (λ r. sweep_step s now ≡ r → IsClosedForGood (left_by s r) handle) [
      | Ok done ↦ (λ h. closed_for_good_by_sweeps s done.0 now handle done.1 h gone)
      | Err fault ↦ (λ h. gone)
    ]) refl

by_beats : (s : MasterState) (now : ℕ) (handle : Handle) → IsClosedForGood s handle → IsClosedForGood (left_by s (beats_step s now)) handle
by_beats s now handle gone =
    (elim (beats_step s now) as (λ r. beats_step s now ≡ r → IsClosedForGood (left_by s r) handle) [
      | Ok done ↦ (λ h. closed_by_beats s done.0 now handle done.1 h gone)
      | Err fault ↦ (λ h. gone)
    ]) refl

by_step : (s : MasterState) (step : MasterStep) (handle : Handle) → step_opens (key_of handle) step ≡ false → IsClosedForGood s handle → IsClosedForGood (master_behind s step) handle
by_step s (Takes now request) handle other gone = by_take s now request handle other gone
by_step s (Sweeps now) handle other gone = by_sweep s now handle gone
by_step s (Beats now) handle other gone = by_beats s now handle gone

pub closed_for_good_forever : ClosedForGoodForever
closed_for_good_forever s [] handle gone others = gone
closed_for_good_forever s (step ∷ steps) handle gone others =
    let t = or_parts (step_opens (key_of handle) step) (list_any (step_opens (key_of handle)) steps) others in
    closed_for_good_forever (master_behind s step) steps handle (by_step s step handle t.0 gone) t.1

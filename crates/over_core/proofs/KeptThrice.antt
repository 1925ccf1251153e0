-- What a sweep keeps whose answer is given three times.
use Rattle.std.proofs.Common.{◌≡◌, ℕ, List, Result, Ok, Err}
use Rattle.std.specs.Prelude.{◌⊎◌, IfOk, IfErr, OnOk, OnErr}
use Rattle.node_core.specs.declared.refusals.Fault.{Fault}
use Rattle.rows_cell.specs.declared.tables.Rows.{Rows}
use Rattle.rows_cell.specs.Stores.{Store}
use Rattle.master_state.specs.State.{MasterState}
use Rattle.over_core.specs.Kept.{CellState, IsKept}
use Rattle.over_core.specs.Sweep.{sweep_edits, sweep_step, beats_step, swept_as, IsSwept, IsHeldUp, sweep_frees}
use Rattle.over_core.proofs.KeptBySweeps.{swept_kept, beats_kept}
use Rattle.over_core.proofs.SweepRefused.{refused_so}
use Rattle.over_core.specs.declared.sweeps.SweptThrice.{SweptThrice}

pub thrice_kept : (old new : Store) (s after : MasterState) (now : ℕ) (result : Result SweptThrice Fault) → IsKept old.cell old.rows s → IfOk result (λ t. sweep_step s now ≡ Ok (after, swept_as t.answers t.quiet)) → OnOk result (IsSwept (sweep_frees s now) (sweep_edits s now) old new) → OnErr result (after ≡ s) → IfErr result (λ e. (sweep_step s now ≡ Err e × new ≡ old) ⊎ IsHeldUp e (sweep_frees s now) (sweep_edits s now) old new) → IsKept new.cell new.rows after
thrice_kept old new s after now (Ok t) k ok committed err fault = swept_kept old new s after now (Ok (swept_as t.answers t.quiet)) k ok committed err fault
thrice_kept old new s after now (Err e) k ok committed err fault = swept_kept old new s after now (Err e) k ok committed err fault

pub refused_as : (s new : CellState) (now : ℕ) (result : Result SweptThrice Fault) → OnErr result (new.master ≡ s.master) → IfErr result (λ e. (sweep_step s.master now ≡ Err e × new.store ≡ s.store) ⊎ IsHeldUp e (sweep_frees s.master now) (sweep_edits s.master now) s.store new.store) → IfErr result (λ e. (sweep_step s.master now ≡ Err e × new ≡ s) ⊎ IsHeldUp e (sweep_frees s.master now) (sweep_edits s.master now) s.store new.store)
refused_as s new now (Ok t) err h = h
refused_as s new now (Err e) err h = refused_so s new now (Err e) err h

pub beats_kept_thrice : (cell : List ℕ) (rows : Rows) (s new : MasterState) (now : ℕ) (result : Result SweptThrice Fault) → IsKept cell rows s → IfOk result (λ t. beats_step s now ≡ Ok (new, swept_as t.answers t.quiet)) → OnErr result (new ≡ s) → IsKept cell rows new
beats_kept_thrice cell rows s new now (Ok t) k ok err = beats_kept cell rows s new now (Ok (swept_as t.answers t.quiet)) k ok err
beats_kept_thrice cell rows s new now (Err e) k ok err = beats_kept cell rows s new now (Err e) k ok err

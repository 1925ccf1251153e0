-- A sweep that is refused by its moment leaves all as it was.
use Rattle.std.proofs.Common.{◌≡◌, ℕ, Result, Ok, Err, inl, inr}
use Rattle.std.specs.Prelude.{◌⊎◌, IfErr, OnErr}
use Rattle.node_core.specs.declared.refusals.Fault.{Fault}
use Rattle.rows_cell.specs.Stores.{Store}
use Rattle.master_state.specs.State.{MasterState}
use Rattle.over_core.specs.declared.swept.Swept.{Swept}
use Rattle.over_core.specs.Kept.{CellState}
use Rattle.over_core.specs.Sweep.{sweep_edits, sweep_step, IsSwept, IsHeldUp, sweep_frees}

abbrev state : MasterState → Store → CellState
state master store = record { master = master; store = store }

same_state : (a b : MasterState) (x y : Store) → a ≡ b → x ≡ y → state a x ≡ state b y
same_state a b x y h k = cc

pub refused_so : (s new : CellState) (now : ℕ) (result : Result Swept Fault) → OnErr result (new.master ≡ s.master) → IfErr result (λ e. (sweep_step s.master now ≡ Err e × new.store ≡ s.store) ⊎ IsHeldUp e (sweep_frees s.master now) (sweep_edits s.master now) s.store new.store) → IfErr result (λ e. (sweep_step s.master now ≡ Err e × new ≡ s) ⊎ IsHeldUp e (sweep_frees s.master now) (sweep_edits s.master now) s.store new.store)
refused_so s new now (Ok told) err h = h
refused_so s new now (Err e) err h = elim h [ inl p ↦ inl (p.0, same_state new.master s.master new.store s.store err p.1) | inr r ↦ inr r ]

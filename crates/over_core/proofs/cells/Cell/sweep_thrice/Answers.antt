use Rattle.std.proofs.Common.{◌≡◌, subst, sym, rules}
use Rattle.std.specs.Prelude.{◌⊎◌, Err, IfErr, OnOk}
use Rattle.over_core.specs.Kept.{CellState}
use Rattle.over_core.specs.Sweep.{sweep_edits, sweep_step, IsSwept, IsHeldUp, sweep_frees}
use Rattle.over_core.proofs.KeptBySweeps.{sweep_sound}
use Rattle.over_core.proofs.KeptThrice.{thrice_kept, refused_as}
use Rattle.over_core.proofs.cells.Cell.sweep_thrice.Goals as goal

pub sweep_thrice_by-requires-clause-sound : goal.sweep_thrice_by-requires-clause-sound
sweep_thrice_by-requires-clause-sound g c = sweep_sound _ _ c.self.inside.master _ c.self.invariant

pub sweep_thrice_by-requires-clause-same : goal.sweep_thrice_by-requires-clause-same
sweep_thrice_by-requires-clause-same g c = sym c.self.invariant.next_instance

pub invariant_of-self : goal.invariant_of-self
invariant_of-self g c =
    thrice_kept c.self.inside.records c.sweep_thrice_by.new.records c.self.inside.master c.sweep_thrice_by.new.cell _ c.sweep_thrice_by.result c.self.invariant c.sweep_thrice_by.ensures.ok c.sweep_thrice_by.ensures.committed c.sweep_thrice_by.ensures.err c.sweep_thrice_by.ensures.fault

pub returns-clause-ok : goal.returns-clause-ok
returns-clause-ok g c = search rules

pub returns-clause-committed : goal.returns-clause-committed
returns-clause-committed g c =
    let P : CellState → Type 0 = λ s. OnOk c.sweep_thrice_by.result (IsSwept (sweep_frees s.master c.args.now) (sweep_edits s.master c.args.now) s.store c.sweep_thrice_by.new.records) in
    subst P c.self.view_is c.sweep_thrice_by.ensures.committed

pub returns-clause-fault : goal.returns-clause-fault
returns-clause-fault g c =
    let new : CellState = record { master = c.sweep_thrice_by.new.cell; store = c.sweep_thrice_by.new.records } in
    let old : CellState = record { master = c.self.inside.master; store = c.self.inside.records } in
    let P : CellState → Type 0 = λ s. IfErr c.sweep_thrice_by.result (λ e. (sweep_step s.master c.args.now ≡ Err e × new ≡ s) ⊎ IsHeldUp e (sweep_frees s.master c.args.now) (sweep_edits s.master c.args.now) s.store new.store) in
    subst P c.self.view_is (refused_as old new c.args.now c.sweep_thrice_by.result c.sweep_thrice_by.ensures.err c.sweep_thrice_by.ensures.fault)

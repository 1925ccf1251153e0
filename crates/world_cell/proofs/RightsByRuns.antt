-- What the printed lines tell of rights.
use Rattle.std.proofs.Common.{◌≡◌, List, [], ◌∷◌, Option, Some, refl, sym, ap, ◌∙◌, inl, inr, map}
use Rattle.std.specs.Prelude.{filter}
use Rattle.node_core.specs.declared.lines.Line.{Line}
use Rattle.node_core.specs.declared.lines.Line.TheVariants as lines
use Rattle.rights_core.specs.Grants.{rights_at, told_of, totals_by}
use Rattle.rights_core.proofs.ToldLines.{AreOfNoRight, told_both, same_rights, totals_told}
use Rattle.master_state.specs.State.{MasterState}
use Rattle.master_state.specs.Lookups.{noted}
use Rattle.cell_core.specs.Cases.{taken_by}
use Rattle.over_core.specs.SweepCase.{swept_by}
use Rattle.over_core.proofs.StepsTell.{take_told, sweep_told}
use Rattle.world_steps.specs.declared.steps.Step.{Step}
use Rattle.world_steps.specs.World.{WorldState, WorldView, is_of_commit}
use Rattle.world_cell.proofs.StepsHold.{does_holds}
use Rattle.world_cell.specs.Consistent.{IsConsistent}
use Rattle.world_cell.specs.Runs.{Run, rights_in, AreRecordedOnce}
use Rattle.world_steps.specs.Made.{Does}
use Rattle.world_cell.proofs.SilentLines.{calm_quiet, quiet_rightless}
use Rattle.world_cell.proofs.WorldCases.{swept_master, WorldCase, world_case}
use Rattle.world_cell.proofs.WorldCases.WorldCase.{ComesUp, Joins, Asks, Beats, Gives, Ticks, Takes, Sweeps, GoesDown, CutsSweep, CutsUp, LosesUp}
use Rattle.world_cell.proofs.CutLines.{kept_rights}
use Rattle.world_cell.proofs.OwnSteps.{IsOwn, asks_own, beats_own, gives_own}
use Rattle.world_cell.proofs.ConsistentSteps.{agrees_at}

-- ---- a step

-- the new master's rights are what the lines make of the former ones
abbrev Tells : Option MasterState → List Line → Option MasterState → Type 0
Tells old printed new = rights_at (rights_in old) printed ≡ Some (rights_in new)

same_told : (old new : Option MasterState) (printed : List Line) → AreOfNoRight printed → new ≡ old → Tells old printed new
same_told old new printed none same = same_rights (rights_in old) printed none ∙ ap (λ m. Some (rights_in m)) (sym same)

own_told : (old new : WorldState) (printed : List Line) → IsOwn old new printed → Tells old.master printed new.master
own_told old new printed o = same_told old.master new.master printed (quiet_rightless printed (calm_quiet printed o.quiet)) (ap (λ (w : WorldState). w.master) o.is)

-- s: the master before; t: the one after
master_told : (old new : Option MasterState) (printed : List Line) (s t : MasterState) (told : List Line) → old ≡ Some s → new ≡ Some t → printed ≡ told → rights_at (map told_of s.rights) told ≡ Some (map told_of t.rights) → Tells old printed new
master_told old new printed s t told is_old is_new is h = rw (is_old, is_new, is) h

case_told : (old : WorldState) (step : Step) (new : WorldState) (printed : List Line) → IsConsistent old → WorldCase old step new printed → Tells old.master printed new.master
case_told old step new printed h (ComesUp u) = rw (u.tells, ap (λ (w : WorldState). w.master) u.is) refl
case_told old step new printed h (Joins j) = same_told old.master new.master printed (rw j.tells tt) (ap (λ (w : WorldState). w.master) j.is)
case_told old step new printed h (Asks a) = own_told old new printed (asks_own old step new printed a)
case_told old step new printed h (Beats b) = own_told old new printed (beats_own old step new printed b)
case_told old step new printed h (Gives g) = own_told old new printed (gives_own old step new printed g)
case_told old step new printed h (Ticks t) = same_told old.master new.master printed (rw t.tells tt) (ap (λ (w : WorldState). w.master) t.is)
case_told old step new printed h (Takes t) =
    let s = noted t.master old.clock in
    master_told old.master new.master printed t.master (taken_by s t.request t.case).0 (taken_by s t.request t.case).1.lines t.is_up (ap (λ (w : WorldState). w.master) t.is) t.tells
    (take_told s t.request t.case (agrees_at old old.master t.master t.is_up h.master).recorded)
case_told old step new printed h (Sweeps t) =
    let s = noted t.master old.clock in
    master_told old.master new.master printed t.master (swept_master s t.case t.action) (swept_by s t.case).1.lines t.is_up (ap (λ (w : WorldState). w.master) t.is) t.tells
    (sweep_told s t.case (agrees_at old old.master t.master t.is_up h.master).recorded)
case_told old step new printed h (GoesDown d) = rw (d.tells, ap (λ (w : WorldState). w.master) d.is) refl
case_told old step new printed h (CutsSweep k) =
    let t = k.sweeps in
    let s = noted t.master old.clock in
    let told : rights_at (rights_in old.master) k.told ≡ Some (rights_in (Some (swept_master s t.case t.action))) =
    master_told old.master (Some (swept_master s t.case t.action)) k.told t.master (swept_master s t.case t.action) (swept_by s t.case).1.lines t.is_up refl t.tells
    (sweep_told s t.case (agrees_at old old.master t.master t.is_up h.master).recorded) in
    rw (k.tells, ap (λ (w : WorldState). w.master) k.is)
    (told_both (rights_in old.master) (rights_in (Some (swept_master s t.case t.action))) [] (filter is_of_commit k.told) (lines.Down ∷ []) (kept_rights (rights_in old.master) k.told ∙ told) refl)
case_told old step new printed h (CutsUp k) = let u = k.comes in rw (k.tells, ap (λ (w : WorldState). w.master) k.is ∙ u.none, u.tells) refl
case_told old step new printed h (LosesUp k) = rw (k.tells, ap (λ (w : WorldState). w.master) k.is ∙ k.none) refl

step_told : (old : WorldView) (step : Step) (new : WorldView) (printed : List Line) → IsConsistent old.world → Does old step new printed → Tells old.world.master printed new.world.master
step_told old step new printed h (inl m) = case_told old.world step new.world printed h (world_case old.world step new.world printed h.master m.is_step)
step_told old step new printed h (inr r) = same_told old.world.master new.world.master printed (rw r.line (tt, tt)) (ap (λ (w : WorldState). w.master) r.left.same)

-- ---- a run

run_told : (old : WorldView) (steps : List Step) (printed : List Line) (new : WorldView) → IsConsistent old.world → Run old steps printed new → Tells old.world.master printed new.world.master
run_told old [] printed new h run = rw (run.0, run.1) refl
run_told old (step ∷ steps) printed new h run =
    rw run.5 (told_both (rights_in old.world.master) (rights_in run.0.world.master) (rights_in new.world.master) run.1 run.2
    (step_told old step run.0 run.1 h run.3) (run_told run.0 steps run.2 new (does_holds old step run.0 run.1 h run.3) run.4))

-- the lines record each right once, and the master's totals are theirs
pub run_records : (old : WorldView) (steps : List Step) (printed : List Line) (new : WorldView) → IsConsistent old.world → Run old steps printed new → AreRecordedOnce old.world printed new.world
run_records old steps printed new h run = record {
  rights = run_told old steps printed new h run;
  totals = λ s up. totals_told s.rights ∙ ap (λ m. totals_by (rights_in m)) (sym up);
}

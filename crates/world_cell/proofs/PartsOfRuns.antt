-- What was run where a run ends early.
use Rattle.std.proofs.Common.{append_assoc, ◌≡◌, ℕ, ◌+◌, List, [], ◌∷◌, ◌++◌, Result, Ok, Err, OnErr, take, length, suc, arith, take_all, refl, sym, ap, subst, ◌∙◌, inr}
use Rattle.std.specs.Prelude.{◌<◌, ◌≤◌, IfOk, slice_index_or}
use Rattle.std.proofs.Math.Seq.{take-suc}
use Rattle.std.proofs.lemmas.List.{append-nil}
use Rattle.node_core.specs.declared.refusals.Fault.{Fault}
use Rattle.node_core.specs.declared.lines.Line.{Line}
use Rattle.node_core.specs.declared.lines.Line.TheVariants as lines
use Rattle.world_steps.specs.declared.steps.Step.{Step}
use Rattle.world_steps.specs.World.{WorldView, IsUndoubted}
use Rattle.world_cell.specs.Runs.{AnyRun, Run}
use Rattle.world_steps.specs.Made.{Does, AnyStep, WasRefused}
use Rattle.world_cell.specs.Consistent.{IsConsistent}
use Rattle.world_cell.proofs.SureRuns.{run_doubts, run_sure}

-- a refused step is a step of a run, also where its line can't be made
pub line_refused : {E : Type 0} (r : Result (List Line) E) (old new : WorldView) (step : Step) (fault : Fault) → IfOk r (λ printed. printed ≡ lines.Refused fault ∷ []) → WasRefused old step new (lines.Refused fault ∷ []) → IfOk r (λ printed. AnyStep old step new printed)
line_refused (Ok printed) old new step fault is h = inr (subst (λ p. WasRefused old step new p) (sym is) h)
line_refused (Err e) old new step fault is h = tt

pub line_lost : {X E : Type 0} (r : Result X E) (old new : WorldView) (step : Step) (fault : Fault) → WasRefused old step new (lines.Refused fault ∷ []) → OnErr r ((printed : List Line) × WasRefused old step new printed)
line_lost (Ok x) old new step fault h = tt
line_lost (Err e) old new step fault h = (lines.Refused fault ∷ [], h)

pub take_more : {X : Type 0} (xs : List X) (i : ℕ) (x : X) → i < length xs → x ≡ slice_index_or xs i x → take (i + 1) xs ≡ take i xs ++ x ∷ []
take_more xs i x less is =
    let one : i + 1 ≡ suc i = omega arith in
    rw one (take-suc xs i x less) ∙ ap (λ y. take i xs ++ y ∷ []) (sym is)

any_push : (w mid new : WorldView) (steps : List Step) (printed : List Line) (step : Step) (told : List Line) → AnyRun w steps printed mid → AnyStep mid step new told → AnyRun w (steps ++ step ∷ []) (printed ++ told) new
any_push w mid new [] printed step told run does =
    let none : printed ++ told ≡ told ++ [] = ap (λ l. l ++ told) run.0 ∙ sym (append-nil told) in
    (new, told, [], rw run.1 at does, (refl, refl), none)
any_push w mid new (s ∷ steps) printed step told run does =
    (run.0, run.1, run.2 ++ told, run.3, any_push run.0 mid new steps run.2 step told run.4 does, ap (λ l. l ++ told) run.5 ∙ append_assoc run.1 run.2 told)

pub run_push : (w mid new : WorldView) (steps : List Step) (printed : List Line) (step : Step) (told : List Line) → Run w steps printed mid → Does mid step new told → Run w (steps ++ step ∷ []) (printed ++ told) new
run_push w mid new [] printed step told run does =
    let none : printed ++ told ≡ told ++ [] = ap (λ l. l ++ told) run.0 ∙ sym (append-nil told) in
    (new, told, [], rw run.1 at does, (refl, refl), none)
run_push w mid new (s ∷ steps) printed step told run does =
    (run.0, run.1, run.2 ++ told, run.3, run_push run.0 mid new steps run.2 step told run.4 does, ap (λ l. l ++ told) run.5 ∙ append_assoc run.1 run.2 told)

-- one step more is run
pub run_more : (w mid new : WorldView) (steps : List Step) (i : ℕ) (step : Step) (printed told : List Line) → i < length steps → step ≡ slice_index_or steps i step → AnyRun w (take i steps) printed mid → AnyStep mid step new told → AnyRun w (take (i + 1) steps) (printed ++ told) new
run_more w mid new steps i step printed told less is run does =
    rw (take_more steps i step less is) (any_push w mid new (take i steps) printed step told run does)

-- what was run where the line of a refused step can't be made, or no line can be added
pub run_part : {X E : Type 0} (r : Result X E) (w mid new : WorldView) (steps : List Step) (i : ℕ) (step : Step) (printed told : List Line) → i < length steps → step ≡ slice_index_or steps i step → AnyRun w (take i steps) printed mid → AnyStep mid step new told → OnErr r ((count : ℕ) × (lines : List Line) × AnyRun w (take count steps) lines new)
run_part (Ok x) w mid new steps i step printed told less is run does = tt
run_part (Err e) w mid new steps i step printed told less is run does = (i + 1, printed ++ told, run_more w mid new steps i step printed told less is run does)

pub run_whole : (w new : WorldView) (steps : List Step) (i : ℕ) (printed : List Line) → length steps ≤ i → AnyRun w (take i steps) printed new → AnyRun w steps printed new
run_whole w new steps i printed all run = rw (take_all i steps all) at run

-- ---- where nothing is in doubt at the end

-- it wasn't at the beginning
pub began_consistent : (w new : WorldView) (steps : List Step) (printed : List Line) → (IsUndoubted w → IsConsistent w.world) → AnyRun w steps printed new → IsUndoubted new → IsConsistent w.world
began_consistent w new steps printed fits run none =
    let rises = run_doubts w steps printed new run in
    let sure : w.doubt ≡ 0 = omega arith in
    fits sure

-- and all of it is a run through consistent worlds
pub whole_sure : (w new : WorldView) (steps : List Step) (i : ℕ) (printed : List Line) → length steps ≤ i → (IsUndoubted w → IsConsistent w.world) → AnyRun w (take i steps) printed new → IsUndoubted new → IsConsistent w.world × Run w steps printed new
whole_sure w new steps i printed all fits run none =
    let whole : AnyRun w steps printed new = run_whole w new steps i printed all run in
    (began_consistent w new steps printed fits whole none, run_sure w steps printed new whole none)

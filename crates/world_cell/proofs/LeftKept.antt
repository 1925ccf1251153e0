-- Whatever is done in a world, a crash leaves it consistent, whichever rows it leaves.
use Rattle.std.proofs.Common.{◌≡◌, ℕ, ◌≤◌, Bool, true, false, List, [], ◌∷◌, Result, Ok, Err, Option, Some, None, inl, inr, arith, refl, sym, ap, ◌∙◌, subst}
use Rattle.std.specs.Prelude.{◌⊎◌, ◌==◌, ◌-◌, IfOk, IfErr, OnOk, OnErr, if◌then◌else◌}
use Rattle.coherence.specs.Slice.{IsIn}
use Rattle.node_core.specs.declared.refusals.Fault.{Fault}
use Rattle.node_core.specs.declared.lines.Line.{Line}
use Rattle.node_core.specs.declared.lines.Line.TheVariants as lines
use Rattle.rows_cell.specs.declared.tables.Rows.{Rows}
use Rattle.world_steps.specs.declared.parts.SweepResult.{SweepResult}
use Rattle.world_steps.specs.declared.steps.Step.{Step}
use Rattle.world_steps.specs.declared.steps.Step.TheVariants as steps
use Rattle.world_steps.specs.World.{WorldView, IsUndoubted, world_step, world_sweep, without_quiet, step_edits, step_frees, IsStored, IsLeft, MayRefuseStep}
use Rattle.world_steps.specs.Made.{WasMade, WasRefused}
use Rattle.world_steps.specs.Crash.{left_at, crashed, IsCrash, IsNoCrash}
use Rattle.world_steps.proofs.AsRead.{made_doubts, refused_doubts, made_sure, refused_sure}
use Rattle.world_cell.specs.Consistent.{IsConsistent}
use Rattle.world_cell.specs.Left.{EachIsLeft}
use Rattle.world_cell.proofs.CrashRuns.{left_consistent, does_left, settled_left}
use Rattle.world_cell.proofs.WorldCases.{step_sweeps}

-- ---- a step

pub step_each : (old new : WorldView) (step : Step) (r : Result (List Line) Fault) → (IsUndoubted old → IsConsistent old.world) → (IsUndoubted old → EachIsLeft old) → IfOk r (λ printed. WasMade old step new printed) → IfErr r (λ e. WasRefused old step new (lines.Refused e ∷ [])) → IsUndoubted new → EachIsLeft new
step_each old new step (Ok printed) fits each made refused none =
    let rises = made_doubts old step new printed made in
    let sure : old.doubt ≡ 0 = omega arith in
    does_left old step new printed (fits sure) (each sure) (inl (made_sure old step new printed made none))
step_each old new step (Err fault) fits each made refused none =
    let rises = refused_doubts old step new (lines.Refused fault ∷ []) refused in
    let sure : old.doubt ≡ 0 = omega arith in
    does_left old step new (lines.Refused fault ∷ []) (fits sure) (each sure) (inr (refused_sure old step new (lines.Refused fault ∷ []) refused none))

-- ---- a sweep

swept_why : (old new : WorldView) (fault : Fault) → MayRefuseStep (world_sweep old.world old.world.master) steps.Sweep fault old new → MayRefuseStep (world_step old.world steps.Sweep) steps.Sweep fault old new
swept_why old new fault (inl told) = inl (step_sweeps old.world ∙ ap without_quiet told.0, told.1)
swept_why old new fault (inr outside) = inr outside

pub sweep_each : (old new : WorldView) (r : Result SweepResult Fault) → (IsUndoubted old → IsConsistent old.world) → (IsUndoubted old → EachIsLeft old) → IfOk r (λ turn. world_sweep old.world old.world.master ≡ Ok (new.world, turn)) → OnOk r (IsStored (step_frees old.world steps.Sweep) (step_edits old.world steps.Sweep) old new) → IfErr r (λ e. MayRefuseStep (world_sweep old.world old.world.master) steps.Sweep e old new) → OnErr r (IsLeft (step_frees old.world steps.Sweep) (step_edits old.world steps.Sweep) old new)
    → IsUndoubted new → EachIsLeft new
sweep_each old new (Ok turn) fits each made stored why left none =
    let rises = stored.doubted in
    let sure : old.doubt ≡ 0 = omega arith in
    does_left old steps.Sweep new turn.lines (fits sure) (each sure) (inl (record { is_step = step_sweeps old.world ∙ ap without_quiet made; typed = tt; stored = stored }))
sweep_each old new (Err fault) fits each made stored why left none =
    let rises = left.doubted in
    let sure : old.doubt ≡ 0 = omega arith in
    does_left old steps.Sweep new (lines.Refused fault ∷ []) (fits sure) (each sure) (inr (record { fault = fault; why = swept_why old new fault why; left = left; line = refl }))

-- ---- a crash

one_left : (one : Bool) (first rows : Rows) (others : List Rows) (next : Option Rows) → (if one then Some first else next) ≡ Some rows → (next ≡ Some rows → IsIn rows others) → IsIn rows (first ∷ others)
one_left true first rows others next is goes = let same : first ≡ rows = cc in inl (sym same)
one_left false first rows others next is goes = inr (goes is)

-- the rows of a number are among those that it may leave
pub left_is_in : (number : ℕ) (leave : List Rows) (rows : Rows) → left_at leave number ≡ Some rows → IsIn rows leave
left_is_in number [] rows is = cc
left_is_in number (first ∷ others) rows is = one_left (number == 1) first rows others (left_at others (number - 1)) is (left_is_in (number - 1) others rows)

crashed_holds : (old : WorldView) (rows : Rows) → IsConsistent old.world → EachIsLeft old → IsIn rows old.may_leave → IsConsistent (crashed old rows).world
crashed_holds old rows h each i = left_consistent old.world rows old.world.master h refl (each rows i)

module _ (old new : WorldView) (number : ℕ) (fits : IsUndoubted old → IsConsistent old.world) (each : IsUndoubted old → EachIsLeft old) where
  same_doubt : (rows : Rows) → new ≡ crashed old rows → IsUndoubted new → IsUndoubted old
  same_doubt rows is none = sym (ap (λ (w : WorldView). w.doubt) is) ∙ none

  after_crash : (rows : Rows) → left_at old.may_leave number ≡ Some rows → new ≡ crashed old rows → IsUndoubted new → IsConsistent (crashed old rows).world
  after_crash rows at is none =
      let sure = same_doubt rows is none in
      crashed_holds old rows (fits sure) (each sure) (left_is_in number old.may_leave rows at)

  pub crash_holds : (r : Result (List Line) Fault) → IfOk r (λ printed. IsCrash number old new printed) → IfErr r (λ e. IsNoCrash number e old new) → IsUndoubted new → IsConsistent new.world
  crash_holds (Ok printed) made refused none = subst (λ (w : WorldView). IsConsistent w.world) (sym made.2) (after_crash made.0 made.1 made.2 none)
  crash_holds (Err fault) made refused none =
      subst (λ (w : WorldView). IsConsistent w.world) (sym refused.0) (fits (sym (ap (λ (w : WorldView). w.doubt) refused.0) ∙ none))

  pub crash_each : (r : Result (List Line) Fault) → IfOk r (λ printed. IsCrash number old new printed) → IfErr r (λ e. IsNoCrash number e old new) → IsUndoubted new → EachIsLeft new
  crash_each (Ok printed) made refused none =
      subst EachIsLeft (sym made.2) (settled_left (crashed old made.0) (after_crash made.0 made.1 made.2 none) refl)
  crash_each (Err fault) made refused none = subst EachIsLeft (sym refused.0) (each (sym (ap (λ (w : WorldView). w.doubt) refused.0) ∙ none))

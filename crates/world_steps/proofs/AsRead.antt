-- Where nothing is in doubt, each step is by the world of before.
use Rattle.std.proofs.Common.{◌≡◌, List, [], ◌∷◌, ◌≤◌, Result, Ok, Err, Option, Some, None, refl, sym, ap, subst, ◌∙◌, inl, inr, arith}
use Rattle.std.specs.Prelude.{IfOk, IfErr, OnOk, OnErr}
use Rattle.node_core.specs.declared.refusals.Fault.{Fault}
use Rattle.node_core.specs.declared.lines.Line.{Line}
use Rattle.node_core.specs.declared.lines.Line.TheVariants as lines
use Rattle.master_state.specs.State.{MasterState}
use Rattle.world_steps.specs.declared.steps.Step.{Step}
use Rattle.world_steps.specs.declared.steps.Step.TheVariants as steps
use Rattle.world_steps.specs.World.{WorldView, IsUndoubted, store_in, as_read, IsAtUp, IsAt, world_step, step_edits, step_frees, IsStored, IsLeft, MayRefuseStep}
use Rattle.world_steps.specs.Made.{IsTyped, IsMade, IsRefused, Does, WasMade, WasRefused, AnyStep}

-- ---- the world of a step

up_now : (m : Option MasterState) (old : WorldView) → IsAtUp m old old
up_now None old = (store_in old, record { cell = refl; counted = refl; doubted = omega arith; same = λ none. refl }, refl)
up_now (Some master) old = refl

-- the world of before is one
pub at_now : (step : Step) (old : WorldView) → IsAt step old old
at_now (steps.Up now) old = up_now old.world.master old
at_now (steps.CutUp now commit) old = up_now old.world.master old
at_now _ old = refl

up_doubts : (m : Option MasterState) (old at : WorldView) → IsAtUp m old at → old.doubt ≤ at.doubt
up_doubts None old at h = subst (λ (w : WorldView). old.doubt ≤ w.doubt) (sym h.2) h.1.doubted
up_doubts (Some master) old at h = subst (λ (w : WorldView). old.doubt ≤ w.doubt) (sym h) (omega arith)

pub at_doubts : (step : Step) (old at : WorldView) → IsAt step old at → old.doubt ≤ at.doubt
at_doubts (steps.Up now) old at h = up_doubts old.world.master old at h
at_doubts (steps.CutUp now commit) old at h = up_doubts old.world.master old at h
at_doubts _ old at h = subst (λ (w : WorldView). old.doubt ≤ w.doubt) (sym h) (omega arith)

up_sure : (m : Option MasterState) (old at : WorldView) → IsAtUp m old at → IsUndoubted at → at ≡ old
up_sure None old at h none =
    let sure : h.0.doubt ≡ 0 = ap (λ (w : WorldView). w.doubt) (sym h.2) ∙ none in
    h.2 ∙ ap (as_read old) (h.1.same sure)
up_sure (Some master) old at h none = h

-- and the only one where nothing is in doubt
pub at_sure : (step : Step) (old at : WorldView) → IsAt step old at → IsUndoubted at → at ≡ old
at_sure (steps.Up now) old at h none = up_sure old.world.master old at h none
at_sure (steps.CutUp now commit) old at h none = up_sure old.world.master old at h none
at_sure _ old at h none = h

-- ---- a step

-- most steps have nothing to say of types
pub untyped : {X E : Type 0} (r : Result X E) → OnOk r (Unit {0})
untyped (Ok x) = tt
untyped (Err e) = tt

module _ (old : WorldView) (step : Step) (new : WorldView) where
  pub made_doubts : (printed : List Line) → WasMade old step new printed → old.doubt ≤ new.doubt
  made_doubts printed h = let a = at_doubts step old h.0 h.1 in let b = h.2.stored.doubted in omega arith

  pub refused_doubts : (printed : List Line) → WasRefused old step new printed → old.doubt ≤ new.doubt
  refused_doubts printed h = let a = at_doubts step old h.0 h.1 in let b = h.2.left.doubted in omega arith

  pub made_sure : (printed : List Line) → WasMade old step new printed → IsUndoubted new → IsMade old step new printed
  made_sure printed h none =
      let b = h.2.stored.doubted in
      let sure : h.0.doubt ≡ 0 = omega arith in
      subst (λ w. IsMade w step new printed) (at_sure step old h.0 h.1 sure) h.2

  pub refused_sure : (printed : List Line) → WasRefused old step new printed → IsUndoubted new → IsRefused old step new printed
  refused_sure printed h none =
      let b = h.2.left.doubted in
      let sure : h.0.doubt ≡ 0 = omega arith in
      subst (λ w. IsRefused w step new printed) (at_sure step old h.0 h.1 sure) h.2

  pub step_doubts : (printed : List Line) → AnyStep old step new printed → old.doubt ≤ new.doubt
  step_doubts printed (inl h) = made_doubts printed h
  step_doubts printed (inr h) = refused_doubts printed h

  pub step_sure : (printed : List Line) → AnyStep old step new printed → IsUndoubted new → Does old step new printed
  step_sure printed (inl h) none = inl (made_sure printed h none)
  step_sure printed (inr h) none = inr (refused_sure printed h none)

  -- a step by the world of before
  pub made_now : (r : Result (List Line) Fault) → IfOk r (λ printed. world_step old.world step ≡ Ok (new.world, printed)) → OnOk r (IsTyped old.world step) → OnOk r (IsStored (step_frees old.world step) (step_edits old.world step) old new) → IfOk r (λ printed. WasMade old step new printed)
  made_now (Ok printed) made typed stored = (old, at_now step old, record { is_step = made; typed = typed; stored = stored })
  made_now (Err fault) made typed stored = tt

  pub refused_now : (r : Result (List Line) Fault) → IfErr r (λ e. MayRefuseStep (world_step old.world step) step e old new) → OnErr r (IsLeft (step_frees old.world step) (step_edits old.world step) old new) → IfErr r (λ e. WasRefused old step new (lines.Refused e ∷ []))
  refused_now (Ok printed) why left = tt
  refused_now (Err fault) why left = (old, at_now step old, record { fault = fault; why = why; left = left; line = refl })

-- A session that a plan begins is not there yet.
use Rattle.std.proofs.Common.{◌≡◌, Result, Ok, Err, sym, subst, rules}
use Rattle.std.specs.Prelude.{IfOk}
use Rattle.master_state.specs.declared.updates.Update.{Update}
use Rattle.master_state.specs.Updates.{BeginsNew}
use Rattle.master_state.specs.State.{MasterState}
use Rattle.over_core.specs.declared.actions.Action.{Action}
use Rattle.over_core.specs.declared.plans.Plan.{Plan}
use Rattle.over_core.specs.Plans.{plan_of}

begins_new : (s : MasterState) (action : Action) → BeginsNew s (plan_of s action).update.session
begins_new s action = search rules

-- the same of what was made of a plan
pub begins_by : (X E : Type 0) (update : X → Update) (s : MasterState) (action : Action) (plan : Plan) (made : Result X E) → plan ≡ plan_of s action → IfOk made (λ x. update x ≡ plan.update) → IfOk made (λ x. BeginsNew s (update x).session)
begins_by X E update s action plan (Ok x) is h =
    subst (λ (u : Update). BeginsNew s u.session) (sym h) (subst (λ (p : Plan). BeginsNew s p.update.session) (sym is) (begins_new s action))
begins_by X E update s action plan (Err e) is h = tt

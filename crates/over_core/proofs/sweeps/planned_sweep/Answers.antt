use Rattle.std.proofs.Common.{Ok, refl}
use Rattle.over_core.specs.declared.plans.Plan.{Plan}
use Rattle.over_core.proofs.BeginsNew.{begins_by}
use Rattle.over_core.proofs.sweeps.planned_sweep.Goals as goal

pub returns-in-Ok-clause-begins : goal.returns-in-Ok-clause-begins
returns-in-Ok-clause-begins c = begins_by Plan Plan (λ p. p.update) c.args.cell.now c.args.action.now c.in_ok-plan.plan (Ok c.in_ok-plan.plan) c.in_ok-plan.ensures refl

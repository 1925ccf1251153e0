use Rattle.std.proofs.Common.{subst}
use Rattle.world_steps.specs.World.{WorldView, IsUndoubted}
use Rattle.world_cell.specs.Locks.{HasLegalLocks, CountsHolds}
use Rattle.world_cell.proofs.ConsistentSteps.{step_holds}
use Rattle.world_cell.proofs.LeftKept.{step_each}
use Rattle.world_cell.proofs.Reaches.{leads_on}
use Rattle.world_cell.proofs.ServedLines.{told_serves}
use Rattle.world_cell.proofs.LocksByRuns.{told_legal, told_counts}
use Rattle.world_cell.proofs.worlds.World.step.Goals as goal

pub invariant_of-self : goal.invariant_of-self
invariant_of-self g c = (
  step_holds leads_on c.self.inside.parts c.step-told.new.self c.args.step.now c.step-told.result c.self.invariant.0 c.kept.ensures c.step-told.ensures.made c.step-told.ensures.refused,
  step_each c.self.inside.parts c.step-told.new.self c.args.step.now c.step-told.result c.self.invariant.0 c.self.invariant.1 c.step-told.ensures.made c.step-told.ensures.refused,
)

pub returns-clause-served : goal.returns-clause-served
returns-clause-served g c = told_serves c.self.inside.parts c.args.step.now c.step-told.new.self c.step-told.result c.self.invariant.0 c.step-told.ensures.made

pub returns-clause-locks : goal.returns-clause-locks
returns-clause-locks g c =
    subst (λ (v : WorldView). IsUndoubted c.step-told.new.self → HasLegalLocks v.world c.step-told.new.self.world) c.self.view_is
    (told_legal c.self.inside.parts c.step-told.new.self c.args.step.now c.step-told.result c.self.invariant.0
    (step_holds leads_on c.self.inside.parts c.step-told.new.self c.args.step.now c.step-told.result c.self.invariant.0 c.kept.ensures c.step-told.ensures.made c.step-told.ensures.refused)
    c.step-told.ensures.made c.step-told.ensures.refused)

pub returns-clause-generations : goal.returns-clause-generations
returns-clause-generations g c =
    subst (λ (v : WorldView). IsUndoubted c.step-told.new.self → CountsHolds v.world.rows c.step-told.new.self.world.rows) c.self.view_is
    (told_counts c.self.inside.parts c.step-told.new.self c.args.step.now c.step-told.result c.self.invariant.0 c.step-told.ensures.made c.step-told.ensures.refused)

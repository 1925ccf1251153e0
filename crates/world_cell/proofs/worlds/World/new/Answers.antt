use Rattle.std.proofs.Common.{subst, sym}
use Rattle.world_steps.specs.World.{WorldView, IsUndoubted}
use Rattle.world_cell.specs.Consistent.{IsConsistent}
use Rattle.world_cell.specs.Left.{EachIsLeft}
use Rattle.world_cell.proofs.ConsistentSteps.{new_holds}
use Rattle.world_cell.proofs.worlds.World.new.Goals as goal

pub invariant_of-result : goal.invariant_of-result
invariant_of-result g c =
    subst (λ (v : WorldView). (IsUndoubted v → IsConsistent v.world) × (IsUndoubted v → EachIsLeft v)) (sym c.new.ensures.is) (λ none. new_holds _ _ _ c.new.ensures.range, λ none rows i. new_holds _ _ _ c.new.ensures.range)

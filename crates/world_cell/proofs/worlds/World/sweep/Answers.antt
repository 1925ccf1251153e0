use Rattle.world_cell.proofs.ConsistentSteps.{swept_holds}
use Rattle.world_cell.proofs.LeftKept.{sweep_each}
use Rattle.world_cell.proofs.Reaches.{leads_on}
use Rattle.world_cell.proofs.worlds.World.sweep.Goals as goal

pub invariant_of-self : goal.invariant_of-self
invariant_of-self g c = (
  swept_holds leads_on c.self.inside.parts c.sweep-turn.new.self c.sweep-turn.result c.self.invariant.0 c.kept.ensures c.sweep-turn.ensures.ok c.sweep-turn.ensures.stored c.sweep-turn.ensures.left,
  sweep_each c.self.inside.parts c.sweep-turn.new.self c.sweep-turn.result c.self.invariant.0 c.self.invariant.1 c.sweep-turn.ensures.ok c.sweep-turn.ensures.stored c.sweep-turn.ensures.fault c.sweep-turn.ensures.left,
)

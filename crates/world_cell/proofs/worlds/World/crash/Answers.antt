use Rattle.world_cell.proofs.LeftKept.{crash_holds, crash_each}
use Rattle.world_cell.proofs.worlds.World.crash.Goals as goal

pub invariant_of-self : goal.invariant_of-self
invariant_of-self g c = (
  crash_holds c.self.inside.parts c.crash.new.self c.args.number c.self.invariant.0 c.self.invariant.1 c.crash.result c.crash.ensures.ok c.crash.ensures.refused,
  crash_each c.self.inside.parts c.crash.new.self c.args.number c.self.invariant.0 c.self.invariant.1 c.crash.result c.crash.ensures.ok c.crash.ensures.refused,
)

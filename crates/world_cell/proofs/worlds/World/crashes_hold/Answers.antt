use Rattle.world_cell.proofs.CrashLaws.{crashes_hold}
use Rattle.world_cell.proofs.worlds.World.crashes_hold.Goals as goal

pub returns : goal.returns
returns g c = crashes_hold c.args.self.now c.consistent.ensures c.left.ensures

use Rattle.world_cell.proofs.LawsOfRuns.{runs_hold}
use Rattle.world_cell.proofs.worlds.World.runs_hold.Goals as goal

pub returns : goal.returns
returns g c = runs_hold c.args.self.now c.consistent.ensures

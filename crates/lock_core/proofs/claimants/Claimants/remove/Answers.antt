use Rattle.lock_core.proofs.Listed.{kept_without}
use Rattle.lock_core.proofs.claimants.Claimants.remove.Goals as goal

pub returns : goal.returns
returns c =
    kept_without c.self.inside.lost c.self.inside.own.keys c.remove.new.self.keys c.self.inside.crowded.keys c.args.self.now c.args.client c.args.instance c.self.view_is c.remove.ensures.updates.0

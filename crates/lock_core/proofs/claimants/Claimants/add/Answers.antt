use Rattle.lock_core.proofs.Listed.{kept_with}
use Rattle.lock_core.proofs.claimants.Claimants.add.Goals as goal

pub returns-in-Ok-clause-kept : goal.returns-in-Ok-clause-kept
returns-in-Ok-clause-kept c =
    kept_with c.self.inside.lost c.self.inside.own.keys c.insert.new.self.keys c.self.inside.crowded.keys c.args.self.now (c.args.client, c.args.instance) c.self.view_is c.in-Ok.ensures.updates.0

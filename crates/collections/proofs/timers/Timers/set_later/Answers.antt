use Rattle.collections.proofs.Wakes.{kept_with}
use Rattle.collections.proofs.timers.Timers.set_later.Goals as goal

pub returns-in-Ok-clause-kept : goal.returns-in-Ok-clause-kept
returns-in-Ok-clause-kept c =
    kept_with c.self.inside.lost c.self.inside.soon.keys c.self.inside.later.keys c.insert.new.self.keys c.args.self.now (c.args.moment, c.args.key) c.self.view_is c.in-Ok.ensures.updates.0

use Rattle.collections.proofs.Wakes.{kept_with_key, woken_now}
use Rattle.collections.proofs.timers.Timers.set_soon.Goals as goal

pub returns-in-Ok-clause-own : goal.returns-in-Ok-clause-own
returns-in-Ok-clause-own c = woken_now c.self.inside.lost c.self.inside.soon.keys c.insert.new.self.keys c.self.inside.later.keys c.args.key c.in-Ok.ensures.updates.0

pub returns-in-Ok-clause-kept : goal.returns-in-Ok-clause-kept
returns-in-Ok-clause-kept c = kept_with_key c.self.inside.lost c.self.inside.soon.keys c.insert.new.self.keys c.self.inside.later.keys c.args.self.now c.args.key c.self.view_is c.in-Ok.ensures.updates.0

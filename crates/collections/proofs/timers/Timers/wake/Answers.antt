use Rattle.std.proofs.Common.{refl}
use Rattle.collections.proofs.Wakes.{kept_woken, fewer}
use Rattle.collections.proofs.timers.Timers.wake.Goals as goal

pub returns-in-Ok-clause-kept : goal.returns-in-Ok-clause-kept
returns-in-Ok-clause-kept c =
    kept_woken c.self.inside.lost c.self.inside.soon.keys c.insert.new.self.keys c.self.inside.later.keys c.remove.new.self.keys c.args.self.now c.args.found c.self.view_is c.in-Ok.ensures.updates.0 c.remove.ensures.updates.0

pub returns-in-Ok-clause-fewer : goal.returns-in-Ok-clause-fewer
returns-in-Ok-clause-fewer c = fewer c.self.inside.later.keys c.remove.new.self.keys c.args.self.now _ c.args.found.0 c.args.found.1 c.remove.result c.self.view_is refl c.requires c.remove.ensures.test c.remove.ensures.len

pub returns-in-Err-clause-fewer : goal.returns-in-Err-clause-fewer
returns-in-Err-clause-fewer c = fewer c.self.inside.later.keys c.remove.new.self.keys c.args.self.now _ c.args.found.0 c.args.found.1 c.remove.result c.self.view_is refl c.requires c.remove.ensures.test c.remove.ensures.len

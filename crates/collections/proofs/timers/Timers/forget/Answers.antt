use Rattle.collections.proofs.Wakes.{kept_without_moment, kept_without}
use Rattle.collections.proofs.timers.Timers.forget.Goals as goal

pub returns-then-remove : goal.returns-then-remove
returns-then-remove c = kept_without_moment c.self.inside.lost c.self.inside.soon.keys c.self.inside.later.keys c.remove.new.self.keys c.args.self.now c.args.key c.args.moment c.self.view_is c.remove.ensures.updates.0

pub returns : goal.returns
returns c =
    kept_without c.self.inside.lost c.self.inside.soon.keys c.remove-2.new.self.keys c.self.inside.later.keys c.remove.new.self.keys c.args.self.now c.args.key c.args.moment c.self.view_is c.remove-2.ensures.updates.0 c.remove.ensures.updates.0

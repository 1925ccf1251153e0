use Rattle.collections.proofs.Wakes.{kept_without_key}
use Rattle.collections.proofs.timers.Timers.put_off.Goals as goal

pub returns-clause-others : goal.returns-clause-others
returns-clause-others c = λ k m differs old.
    c.set.ensures.kept k m (kept_without_key c.self.inside.lost c.self.inside.soon.keys c.remove.new.self.keys c.self.inside.later.keys c.args.self.now c.args.key c.self.view_is c.remove.ensures.updates.0 k m differs old)

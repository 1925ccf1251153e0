use Rattle.cache_core.proofs.Turns.{flushed_within}
use Rattle.cache_core.proofs.caches.Cache.flush.Goals as goal

pub invariant_of-self : goal.invariant_of-self
invariant_of-self c = flushed_within c.self.inside.held c.remove.new.self c.args.name.now c.self.invariant c.remove.ensures

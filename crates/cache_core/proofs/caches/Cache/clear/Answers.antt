use Rattle.cache_core.proofs.Turns.{empty_within}
use Rattle.cache_core.proofs.caches.Cache.clear.Goals as goal

pub invariant_of-self : goal.invariant_of-self
invariant_of-self c = empty_within c.self.inside.held c.clear.new.self c.self.invariant c.clear.ensures

-- What a step does to a client's cache, as values: the changes that lead from the cache before the step to the cache after it.
use Rattle.std.specs.Prelude.{◌≡◌, List, Result, Ok, Err}
use Rattle.cache_core.specs.Caches.{CacheState}
use Rattle.cache_core.specs.Changes.{applied_all}
use Rattle.cache_core.specs.declared.changes.CacheOp.{CacheOp}
use Rattle.node_core.specs.declared.refusals.Fault.{Fault}
use Rattle.client_core.specs.State.{ClientState}

-- done in order on the cache before the step they make the one after it; a step that is refused changes nothing, and they aren't done
abbrev pub LeadTo : {X : Type 0} → CacheState → List CacheOp → ClientState × Result X Fault → Type 0
LeadTo cache ops (new, Ok answer) = applied_all cache ops ≡ new.cache
LeadTo cache ops (new, Err fault) = Unit {0}

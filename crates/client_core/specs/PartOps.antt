-- What a step does to a client's cache, as values, for copies of it that readers share.
use Rattle.std.specs.Prelude.{ℕ, nat_lt, true, false, List, [], ◌∷◌, ◌++◌, Some, if◌then◌else◌}
use Rattle.lease_core.specs.Lease.{LeaseTerms, is_unexpired}
use Rattle.cache_core.specs.declared.changes.CacheOp.{CacheOp}
use Rattle.cache_core.specs.declared.changes.CacheOp.TheVariants.{Flush, Clear, Lease, Enabled}
use Rattle.tags_cell.specs.declared.messages.beats.Invalidation.{Invalidation}

-- nothing is held, and nothing is served
abbrev pub losses : List CacheOp
losses = Clear ∷ Enabled false ∷ []

-- after these the names that the invalidations above what was processed are of
abbrev pub with_flushes : ℕ → List CacheOp → List Invalidation → List CacheOp
with_flushes processed ops [] = ops
with_flushes processed ops (next ∷ others) = with_flushes processed (if nat_lt processed next.number then ops ++ Flush next.name ∷ [] else ops) others

-- a lease is taken: the cache serves where that runs, and is emptied where it has ended
abbrev pub lease_ops : LeaseTerms → ℕ → List CacheOp
lease_ops lease moment = Lease (Some lease) ∷ (if is_unexpired lease.sent lease.span moment then Enabled true ∷ [] else losses)

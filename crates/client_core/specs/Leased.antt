-- What a lease makes of a client's cache.
use Rattle.std.specs.Prelude.{ℕ, Bool, true, false, [], Some, if◌then◌else◌}
use Rattle.lease_core.specs.Lease.{LeaseTerms, is_unexpired}
use Rattle.cache_core.specs.Caches.{CacheState}

-- a cache under a lease serves where that runs, and holds nothing where it has ended
abbrev pub under : CacheState → LeaseTerms → ℕ → CacheState
under cache lease moment =
    if is_unexpired lease.sent lease.span moment
    then record cache { lease = Some lease; enabled = true }
    else record cache { entries = []; lease = Some lease; enabled = false }

-- nothing is held, and nothing is served
abbrev pub shut : CacheState → CacheState
shut cache = record cache { entries = []; enabled = false }

-- where this holds
abbrev pub shut_if : Bool → CacheState → CacheState
shut_if holds cache = if holds then shut cache else cache

-- Until when a client may rely on its lease.
use Rattle.std.specs.Prelude.{◌≡◌, ◌↔◌, ℕ, ◌<◌, true, Option}
use Rattle.lease_core.specs.Lease.{LeaseTerms, IsMoment}
use Rattle.cache_core.specs.Caches.{is_leased}

-- of all moments that there are, the lease is unexpired at those before this one, and at no other
abbrev pub EndsAt : Option LeaseTerms → ℕ → Type 0
EndsAt lease end = (now : ℕ) → IsMoment now → (is_leased lease now ≡ true) ↔ (now < end)

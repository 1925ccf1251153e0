-- What stands in a client's cache after an Alive: it stood there before, under a lease that runs, and the Alive invalidates nothing of it that is new.
use Rattle.std.proofs.Common.{◌≡◌, ℕ, ◌≤◌, ◌<◌, Bool, true, false, cond, List, [], ◌∷◌, Option, Some, None, inl, inr, refl, sym, ◌∙◌, arith}
use Rattle.std.specs.Prelude.{nat_lt}
use Rattle.std.specs.Str.{bytes_eq}
use Rattle.std.proofs.lemmas.Bool.Decides.{nat_tests}
use Rattle.collections.proofs.Keys.{bytes_same}
use Rattle.lease_core.specs.Lease.{LeaseTerms, IsUnexpired, is_unexpired}
use Rattle.tags_cell.specs.declared.messages.beats.Invalidation.{Invalidation}
use Rattle.cache_core.specs.Caches.{Entries, CacheState, AreCacheEntries, entry_of, flushed, is_leased, noted}
use Rattle.client_core.specs.Invalidations.{all_flushed}
use Rattle.client_core.specs.State.{lease_of}
use Rattle.client_core.specs.Leased.{under}
use Rattle.client_core.proofs.OneEntry.{StaysOrGoes, fits_if, invalidated_goes, noted_stays, all_stay_or_go}
use Rattle.world_cell.specs.Slices.{Shown, name_number}

not_both : {P : Type 0} (o : Option Shown) (v : Shown) → o ≡ None → o ≡ Some v → P
not_both o v h k = cc

less : (a b : ℕ) → nat_lt a b ≡ true → a < b
less a b h = grind (arith, nat_tests)

no_less : (a b : ℕ) → nat_lt a b ≡ false → b ≤ a
no_less a b h = grind (arith, nat_tests)

-- what is left of a name has no invalidation that is new
pub flushed_known : (processed : ℕ) (entries : Entries) (all : List Invalidation) (x : List ℕ) (v : Shown) → AreCacheEntries entries → entry_of (all_flushed processed entries all) x ≡ Some v → name_number x all ≤ processed
flushed_known processed entries [] x v fits there = omega arith
flushed_known processed entries (next ∷ others) x v fits there =
    (elim (bytes_eq x next.name) as (λ b. bytes_eq x next.name ≡ b → cond b next.number (name_number x others) ≤ processed) [
      | true ↦ (λ same. own (nat_lt processed next.number) refl same)
      | false ↦ (λ other. flushed_known processed (cond (nat_lt processed next.number) (flushed entries next.name) entries) others x v (fits_if (nat_lt processed next.number) entries next.name fits) there)
    ]) refl
  where
    own : (b : Bool) → nat_lt processed next.number ≡ b → bytes_eq x next.name ≡ true → next.number ≤ processed
    own true above same = not_both (entry_of (all_flushed processed entries (next ∷ others)) x) v (invalidated_goes processed entries [] next others x fits (less processed next.number above) (sym (bytes_same x next.name same))) there
    own false above same = no_less processed next.number above

-- it stands as before, under a lease that runs
pub record StandsStill (cache : CacheState) (moment processed : ℕ) (all : List Invalidation) (x : List ℕ) (v : Shown) : Type 0 where
  pub same : entry_of cache.entries x ≡ Some v
  pub known : name_number x all ≤ processed
  pub leased : is_leased cache.lease moment ≡ true

-- a cache whose lease has ended holds nothing
noted_entry : (cache : CacheState) (x : List ℕ) (v : Shown) (b : Bool) → entry_of (cond b cache (record cache { entries = []; enabled = false })).entries x ≡ Some v → (entry_of cache.entries x ≡ Some v) × (b ≡ true)
noted_entry cache x v true there = (there, refl)
noted_entry cache x v false there = cc

kept_entry : (old new : Entries) (x : List ℕ) (v : Shown) → StaysOrGoes old new x → entry_of new x ≡ Some v → entry_of old x ≡ Some v
kept_entry old new x v (inl same) there = sym same ∙ there
kept_entry old new x v (inr gone) there = not_both (entry_of new x) v gone there

pub passed_entry : (cache : CacheState) (moment processed : ℕ) (all : List Invalidation) (x : List ℕ) (v : Shown) → AreCacheEntries cache.entries → entry_of (all_flushed processed (noted cache moment).entries all) x ≡ Some v → StandsStill cache moment processed all x v
passed_entry cache moment processed all x v fits there =
    let fits_then = (noted_stays cache moment x fits).fits in
    let noted_there = kept_entry (noted cache moment).entries (all_flushed processed (noted cache moment).entries all) x v (all_stay_or_go processed (noted cache moment).entries all x fits_then) there in
    let before = noted_entry cache x v (is_leased cache.lease moment) noted_there in
    record { same = before.0; known = flushed_known processed (noted cache moment).entries all x v fits_then there; leased = before.1 }

-- the same, where a lease is taken
under_entry : (cache : CacheState) (lease : LeaseTerms) (x : List ℕ) (v : Shown) (b : Bool) → entry_of (cond b (record cache { lease = Some lease; enabled = true }) (record cache { entries = []; lease = Some lease; enabled = false })).entries x ≡ Some v → entry_of cache.entries x ≡ Some v
under_entry cache lease x v true there = there
under_entry cache lease x v false there = cc

pub taken_entry : (cache : CacheState) (lease : LeaseTerms) (moment processed : ℕ) (all : List Invalidation) (x : List ℕ) (v : Shown) → AreCacheEntries cache.entries
    → entry_of (under (record (noted cache moment) { entries = all_flushed processed (noted cache moment).entries all }) lease moment).entries x ≡ Some v → StandsStill cache moment processed all x v
taken_entry cache lease moment processed all x v fits there =
    passed_entry cache moment processed all x v fits (under_entry (record (noted cache moment) { entries = all_flushed processed (noted cache moment).entries all }) lease x v (is_unexpired lease.sent lease.span moment) there)

-- a lease that runs is unexpired
pub is_leased_so : (lease : Option LeaseTerms) (now : ℕ) → is_leased lease now ≡ true → IsUnexpired (lease_of lease).sent (lease_of lease).span now
is_leased_so None now h = cc
is_leased_so (Some lease) now h = less _ _ h

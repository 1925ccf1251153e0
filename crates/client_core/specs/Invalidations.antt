-- The invalidations that an Alive carries, and what they leave of a cache.
use Rattle.std.specs.Prelude.{ℕ, nat_lt, Bool, List, [], ◌∷◌, map, if◌then◌else◌}
use Rattle.cache_core.specs.Caches.{Entries, flushed}
use Rattle.tags_cell.specs.declared.messages.beats.Invalidation.{Invalidation}
use Rattle.client_core.specs.InOrder.{are_in_order}

abbrev pub invalidation_numbers : List Invalidation → List ℕ
invalidation_numbers invalidations = map (λ (next : Invalidation). next.number) invalidations

abbrev pub is_in_order : ℕ → List Invalidation → Bool
is_in_order processed invalidations = are_in_order processed (invalidation_numbers invalidations)

-- the last number, or this one where there is none
abbrev pub last_number : ℕ → List Invalidation → ℕ
last_number number [] = number
last_number number (next ∷ others) = last_number next.number others

-- those above what was processed take their entries away
abbrev pub all_flushed : ℕ → Entries → List Invalidation → Entries
all_flushed processed entries [] = entries
all_flushed processed entries (next ∷ others) = all_flushed processed (if nat_lt processed next.number then flushed entries next.name else entries) others

use Rattle.std.specs.Prelude.{◌≡◌, ◌⊎◌, ℕ, List, [], ◌∷◌, ◌++◌, length, nat_lt, if◌then◌else◌}
use mathlib.Core.Option.{some}
use lib.ListN.{get_elem?}
use Rattle.cache_core.specs.Caches.{CacheState, new_cache}
use Rattle.share_cell.specs.declared.side.Side.{Side}

-- the first view is published when the keeper is made
abbrev pub opening : List CacheState
opening = new_cache ∷ []

-- the list begins with these
abbrev pub StartsWith : List CacheState → List CacheState → Type 0
StartsWith all first = (rest : List CacheState) × (all ≡ first ++ rest)

-- c is the last view of the list
abbrev pub EndsWith : List CacheState → CacheState → Type 0
EndsWith all c = (before : List CacheState) × (all ≡ before ++ c ∷ [])

-- What was published is one list. The copy that readers take is its last view, at that place, and each seat knows a beginning of it
abbrev pub Keeps : Side → List (List CacheState) → Type 0
Keeps x views = (all : List CacheState) × StartsWith all opening × EndsWith all x.cache × (length all ≡ x.place)
    × ((seat : ℕ) (v : List CacheState) → get_elem? views seat ≡ some v → StartsWith all v)

-- a seat sees all that was published: what it knew before, and up to the copy that readers take
abbrev pub Seen : List CacheState → Side → Side → List CacheState → Type 0
Seen v x y w = StartsWith w v × EndsWith w y.cache × (length w ≡ y.place)

-- the writer adds one view
abbrev pub Added : List CacheState → Side → Side → List CacheState → Type 0
Added v x y w = w ≡ v ++ y.cache ∷ []

abbrev pub longer : List CacheState → List CacheState → List CacheState
longer v w = if nat_lt (length w) (length v) then v else w

-- where c is not the last view yet, it is published: nothing else changes
abbrev pub Shows : List CacheState → CacheState → List CacheState → Type 0
Shows v c w = EndsWith w c × ((w ≡ v) ⊎ (w ≡ v ++ c ∷ []))

-- the copy that is shown first
abbrev pub IsOpening : Side → Type 0
IsOpening s = s ≡ record { cache = new_cache; place = 1 }

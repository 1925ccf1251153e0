use Rattle.std.specs.Prelude.{◌≡◌, ℕ, ◌⊎◌, List, Option, None, Some}
use Rattle.node_core.specs.declared.views.View.{View as NodeView}
use Rattle.cache_core.specs.Caches.{CacheState, answer}
use Rattle.share_cell.specs.Published.{StartsWith, EndsWith}
use Rattle.share_cell.specs.declared.hit.Hit.{Hit}
use Rattle.share_cell.specs.declared.hit.Hit.TheVariants.{View, Absent, Miss, Gone}

-- what a viewer says of what the cache answers
abbrev pub hit_of : Option (Option NodeView) → Hit
hit_of None = Miss
hit_of (Some None) = Absent
hit_of (Some (Some v)) = View v

-- The viewer knew v and knows w. Its answer is that of the last view of w, at some moment that the clock gave
abbrev pub Answers : (ℕ → Type 0) → List ℕ → List CacheState → List CacheState → Hit → Type 0
Answers gives name v w h = StartsWith w v × ((shown : CacheState) × ((at : ℕ) × EndsWith w shown × gives at × (h ≡ hit_of (answer shown at name))))

-- no view could be entered, or there is such an answer
abbrev pub Hits : (ℕ → Type 0) → List ℕ → List CacheState → List CacheState → Hit → Type 0
Hits gives name v w h = ((h ≡ Gone) × (w ≡ v)) ⊎ Answers gives name v w h

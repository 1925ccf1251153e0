use Rattle.std.specs.Prelude.{◌≡◌, ℕ, List, map, fold, All}
use Rattle.cache_core.specs.Caches.{CacheState, new_cache}
use Rattle.cache_core.specs.declared.changes.CacheOp.{CacheOp}
use Rattle.share_cell.specs.declared.side.SideStep.{SideStep}

-- the last view of the list
abbrev pub newest : List CacheState → CacheState
newest all = fold (λ _ c. c) new_cache all

abbrev pub ops_of : List SideStep → List CacheOp
ops_of ts = map (λ t. t.op) ts

-- each step is for the view at that place
abbrev pub AllPlaced : ℕ → List SideStep → Type 0
AllPlaced n ts = All (λ t. t.place ≡ n) ts

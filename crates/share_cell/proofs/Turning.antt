-- The steps that keep the rule.
use Rattle.std.proofs.Common.{◌≡◌, ℕ, ◌+◌, ◌<◌, ◌≢◌, Bool, true, false, List, [], ◌∷◌, ◌++◌, length, set, nat_lt, if◌then◌else◌, refl, sym, ap, ◌∙◌, subst, ⊎_elim, append_assoc, length-append, append-nil, arith}
use Rattle.std.proofs.lemmas.Bool.Decides.{nat_tests}
use mathlib.Core.Option.{some, some-ne-none}
use lib.ListN.{get_elem?}
use Rattle.left_right.specs.Register.{Admits, TurnsAt, Forks, Merges}
use Rattle.atomic_table.proofs.Lists.{at_set, at_snoc}
use Rattle.cache_core.specs.Caches.{CacheState, new_cache}
use Rattle.share_cell.specs.declared.side.Side.{Side}
use Rattle.share_cell.specs.Published.{opening, StartsWith, Keeps, Seen, Added, longer}

pub starts_itself : (all : List CacheState) → StartsWith all all
starts_itself all = ([], sym (append-nil all))

-- a beginning stays one
pub starts_more : (all v more : List CacheState) → StartsWith all v → StartsWith (all ++ more) v
starts_more all v more h = (h.0 ++ more, ap (λ l. l ++ more) h.1 ∙ append_assoc v h.0 more)

-- a beginning of the same length is the whole
pub starts_all : (all v : List CacheState) → StartsWith all v → length all ≡ length v → all ≡ v
starts_all all v h same = nothing h.0 h.1
  where
    nothing : (rest : List CacheState) → all ≡ v ++ rest → all ≡ v
    nothing [] e = e ∙ append-nil v
    nothing (x ∷ xs) e = let l = ap length e in let m = length-append v (x ∷ xs) in absurd (omega arith)

-- a new seat knows of the opening
pub admits : Admits Keeps opening
admits x views h = (h.0, h.1, h.2, h.3, λ seat v at. ⊎_elim (h.4 seat v) (λ (e : opening ≡ v). subst (StartsWith h.0) e h.1) (at_snoc views opening v seat at))

set_known : (all : List CacheState) (views : List (List CacheState)) (seat : ℕ) (w : List CacheState) → ((j : ℕ) (u : List CacheState) → get_elem? views j ≡ some u → StartsWith all u) → StartsWith all w
    → (j : ℕ) (u : List CacheState) → get_elem? (set views seat w) j ≡ some u → StartsWith all u
set_known all views seat w h own j u e =
    ⊎_elim (λ (t : (j ≡ seat) × (w ≡ u)). subst (StartsWith all) t.1 own) (λ (t : (j ≢ seat) × (get_elem? views j ≡ some u)). h j u t.1) (at_set views seat j w u e)

-- who enters sees the whole list
pub sees : (seat : ℕ) (v : List CacheState) (x : Side) → TurnsAt Keeps seat v x x Seen
sees seat v x views h at = (
  h.0,
  (h.0, h.1, h.2, h.3, set_known h.0 views seat h.0 h.4 (starts_itself h.0)),
  (h.4 seat v at, h.2, h.3),
)

-- The writer knows of as many views as there are, so of all, and publishes the next
pub adds : (seat : ℕ) (v : List CacheState) (x y : Side) → length v ≡ x.place → y.place ≡ x.place + 1 → TurnsAt Keeps seat v x y Added
adds seat v x y all_known next views h at =
    let all = h.0 in
    let is : all ≡ v = starts_all all v (h.4 seat v at) (h.3 ∙ sym all_known) in
    let new = v ++ y.cache ∷ [] in
    let longer_is : new ≡ all ++ y.cache ∷ [] = ap (λ l. l ++ y.cache ∷ []) (sym is) in
    let kept : (u : List CacheState) → StartsWith all u → StartsWith new u = λ u s. subst (λ l. StartsWith l u) (sym longer_is) (starts_more all u (y.cache ∷ []) s) in (
      new,
      (
        new,
        kept opening h.1,
        (v, refl),
        (let l = length-append v (y.cache ∷ []) in omega arith),
        set_known new views seat new (λ j u e. kept u (h.4 j u e)) (starts_itself new),
      ),
      refl,
    )

-- what the writer knows is told
pub forks : (seat : ℕ) (v : List CacheState) → Forks Keeps seat v v v
forks seat v x views h at =
    let own = h.4 seat v at in
    let rest = set_known h.0 views seat v h.4 own in
    (h.0, h.1, h.2, h.3, λ j u e. ⊎_elim (rest j u) (λ (t : v ≡ u). subst (StartsWith h.0) t own) (at_snoc (set views seat v) v u j e))

pub longer_known : (all v w : List CacheState) → StartsWith all v → StartsWith all w → StartsWith all (longer v w)
longer_known all v w a b = by (nat_lt (length w) (length v))
  where
    by : (c : Bool) → StartsWith all (if c then v else w)
    by true = a
    by false = b

-- what was told is learnt
pub merges : (seat : ℕ) (v : List CacheState) (other : ℕ) (w : List CacheState) → Merges Keeps seat v other w (longer v w) opening
merges seat v other w x views h at apart there =
    let own = h.4 seat v at in
    let theirs : StartsWith h.0 w = ⊎_elim (λ (t : (other ≡ seat) × (longer v w ≡ w)). absurd (apart t.0)) (λ (t : (other ≢ seat) × (get_elem? views other ≡ some w)). h.4 other w t.1) (at_set views seat other (longer v w) w there) in
    let one = set_known h.0 views seat (longer v w) h.4 (longer_known h.0 v w own theirs) in
    (h.0, h.1, h.2, h.3, set_known h.0 (set views seat (longer v w)) other opening one h.1)

-- the rule holds when the writer is made
pub opens : (c : CacheState) → c ≡ new_cache → Keeps (record { cache = c; place = 1 }) (opening ∷ [])
opens c is = (
  opening,
  starts_itself opening,
  ([], ap (λ k. k ∷ []) (sym is)),
  refl,
  λ seat v at. ⊎_elim (λ none. absurd (some-ne-none v (sym none))) (λ (e : opening ≡ v). subst (StartsWith opening) e (starts_itself opening)) (at_snoc [] opening v seat at),
)

-- who was told knows what the writer does
pub longer_opening : (w : List CacheState) → 0 < length w → longer opening w ≡ w
longer_opening w many = ap (λ b. if b then opening else w) (lt_1 (length w) many)
  where
    lt_1 : (n : ℕ) → 0 < n → nat_lt n 1 ≡ false
    lt_1 n h = grind (arith, nat_tests)

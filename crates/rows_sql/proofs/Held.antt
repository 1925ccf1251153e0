-- Rows read one behind the other, and the entries that they say.
use Rattle.std.proofs.Common.{◌≡◌, inl, inr, Bool, false, cond, List, [], ◌∷◌, ◌++◌, map, Option, Some, None, Ordering, Less, Equal, Greater, refl, sym, ap, ◌∙◌, subst, true≢false, ◌+◌}
use Rattle.std.specs.List.{AllByRecursion, IsDistinct}
use Rattle.std.specs.List.Sorted.{IsPermutation, IsStrictlySortedBy}
use Rattle.std.specs.Map.{keys_of, lookup}
use Rattle.std.specs.BTreeMap.{is_at, insert_entry}
use Rattle.std.specs.Cmp.{IsTotalOrder}
use Rattle.std.specs.Ordering.{is_eq, is_lt, match_ordering, ordering_reverse}
use Rattle.std.proofs.lemmas.Bool.{cases_Bool, both_ways}
use Rattle.std.proofs.lemmas.List.{map-append}
use Rattle.std.proofs.lemmas.List.Sorted.{IsPermutation-refl, IsPermutation-sym, IsPermutation-trans, IsPermutation-cons, IsPermutation-map, IsPermutation-to_front, IsPermutation-middle, IsPermutation-append, Contains-permutation}
use Rattle.std.proofs.lemmas.Map.Keys.{IsDistinct-IsPermutation}
use Rattle.sqlite_rules.specs.Lists.{Has}
use Rattle.sqlite_rules.proofs.ListLemmas.{has_contained, contains_had}
use Rattle.sqlite_value.specs.Order.{Row}
use Rattle.rows_sql.specs.Held.{Holds}

pub has_mapped : {A B : Type 0} (f : A → B) (xs : List A) (x : A) → Has xs x → Has (map f xs) (f x)
has_mapped f [] x h = absurd h
has_mapped f (y ∷ xs) x (inl same) = inl (ap f same)
has_mapped f (y ∷ xs) x (inr later) = inr (has_mapped f xs x later)

pub mapped_has : {A B : Type 0} (f : A → B) (xs : List A) (y : B) → Has (map f xs) y → (x : A) × Has xs x × (y ≡ f x)
mapped_has f [] y h = absurd h
mapped_has f (x ∷ xs) y (inl same) = (x, inl refl, same)
mapped_has f (x ∷ xs) y (inr later) = let found = mapped_has f xs y later in (found.0, inr found.1, found.2)

pub has_permuted : {X : Type 0} (xs ys : List X) (x : X) → IsPermutation xs ys → Has xs x → Has ys x
has_permuted xs ys x p h = has_contained ys x (Contains-permutation xs ys x p (contains_had xs x h))

in_append : {X : Type 0} (P : X → Type 0) (xs : List X) (y : X) (zs : List X) → AllByRecursion P (xs ++ y ∷ zs) → P y
in_append P [] y zs h = h.0
in_append P (x ∷ xs) y zs h = in_append P xs y zs h.1

has_middle : {X : Type 0} (xs : List X) (y : X) (zs : List X) → Has (xs ++ y ∷ zs) y
has_middle [] y zs = inl refl
has_middle (x ∷ xs) y zs = inr (has_middle xs y zs)

is_eq-reverse : (o : Ordering) → is_eq (ordering_reverse o) ≡ is_eq o
is_eq-reverse Less = refl
is_eq-reverse Equal = refl
is_eq-reverse Greater = refl

reversed : (o p : Ordering) → o ≡ ordering_reverse p → o ≡ Greater → p ≡ Less
reversed o Less e h = refl
reversed o Equal e h = let x : Equal ≡ Greater = sym e ∙ h in cc
reversed o Greater e h = let x : Less ≡ Greater = sym e ∙ h in cc

not_both : (o p : Ordering) → o ≡ ordering_reverse p → o ≡ Less → p ≡ Less → ⊥
not_both o p e h k = let x : Less ≡ Greater = sym h ∙ e ∙ ap ordering_reverse k in true≢false (ap is_lt x)

none_is : {X : Type 0} (x : X) → None ≡ Some x → ⊥
none_is x e = cc

module _ {K : Type 0} (cmp : K → K → Ordering) (total : IsTotalOrder cmp) where
  never : (a b : K) → cmp a b ≡ Less → cmp b a ≡ Less → ⊥
  never a b h k = not_both (cmp a b) (cmp b a) (total.antisymm a b) h k

  flipped : (a b : K) → cmp a b ≡ Greater → cmp b a ≡ Less
  flipped a b h = reversed (cmp a b) (cmp b a) (total.antisymm a b) h

  lower_all : (a b : K) (ks : List K) → cmp a b ≡ Less → AllByRecursion (λ y. cmp b y ≡ Less) ks → AllByRecursion (λ y. cmp a y ≡ Less) ks
  lower_all a b [] low all = tt
  lower_all a b (k ∷ ks) low all = (total.trans a b k low all.0, lower_all a b ks low all.1)

module _ {K V : Type 0} (cmp : K → K → Ordering) (total : IsTotalOrder cmp) where
  -- ---- a put

  below_put : (a : K) (es : List (K × V)) (k : K) (v : V) → cmp a k ≡ Less → AllByRecursion (λ y. cmp a y ≡ Less) (keys_of es) → AllByRecursion (λ y. cmp a y ≡ Less) (keys_of (insert_entry cmp es k v))
  below_put a [] k v low all = (low, tt)
  below_put a (e ∷ es) k v low all =
      (elim (cmp k e.0) as (λ o. AllByRecursion (λ y. cmp a y ≡ Less) (keys_of (match_ordering o ((k, v) ∷ e ∷ es) ((e.0, v) ∷ es) (e ∷ insert_entry cmp es k v)))) [
        | Less ↦ (low, all)
        | Equal ↦ all
        | Greater ↦ (all.0, below_put a es k v low all.1)
      ])

  pub sorted_put : (es : List (K × V)) (k : K) (v : V) → IsStrictlySortedBy cmp (keys_of es) → IsStrictlySortedBy cmp (keys_of (insert_entry cmp es k v))
  unfolding IsStrictlySortedBy
  sorted_put [] k v s = (tt, tt)
  sorted_put (e ∷ es) k v s =
      (elim (cmp k e.0) as (λ o. cmp k e.0 ≡ o → IsStrictlySortedBy cmp (keys_of (match_ordering o ((k, v) ∷ e ∷ es) ((e.0, v) ∷ es) (e ∷ insert_entry cmp es k v)))) [
        | Less ↦ (λ c. ((c, lower_all cmp total k e.0 (keys_of es) c s.0), s))
        | Equal ↦ (λ c. s)
        | Greater ↦ (λ c. (below_put e.0 es k v (flipped cmp total k e.0 c) s.0, sorted_put es k v s.1))
      ]) refl

  pub put_permutes : (es : List (K × V)) (k : K) (v : V) → lookup (is_at (cmp k)) es ≡ None → IsPermutation ((k, v) ∷ es) (insert_entry cmp es k v)
  put_permutes [] k v none = IsPermutation-refl ((k, v) ∷ [])
  put_permutes (e ∷ es) k v none =
      (elim (cmp k e.0) as (λ o. cond (is_eq o) (Some e.1) (lookup (is_at (cmp k)) es) ≡ None → IsPermutation ((k, v) ∷ e ∷ es) (match_ordering o ((k, v) ∷ e ∷ es) ((e.0, v) ∷ es) (e ∷ insert_entry cmp es k v))) [
        | Less ↦ (λ n. IsPermutation-refl ((k, v) ∷ e ∷ es))
        | Equal ↦ (λ n. absurd (none_is e.1 (sym n)))
        | Greater ↦ (λ n. IsPermutation-trans ((k, v) ∷ e ∷ es) (e ∷ (k, v) ∷ es) (e ∷ insert_entry cmp es k v) (IsPermutation-middle ((k, v) ∷ []) e es) (IsPermutation-cons e ((k, v) ∷ es) (insert_entry cmp es k v) (put_permutes es k v n)))
      ]) none

  -- ---- what rows say

  module _ (read : Row → Option (K × V)) where
    abbrev some : List (K × V) → List (Option (K × V))
    some es = map (λ e. Some e) es

    pub holds_none : Holds cmp read [] []
    unfolding IsStrictlySortedBy
    holds_none = record { sorted = tt; said = IsPermutation-refl [] }

    pub holds_more : (rows : List Row) (es : List (K × V)) (r : Row) (k : K) (v : V) → Holds cmp read rows es → read r ≡ Some (k, v) → lookup (is_at (cmp k)) es ≡ None → Holds cmp read (rows ++ r ∷ []) (insert_entry cmp es k v)
    holds_more rows es r k v h is none = record {
      sorted = sorted_put es k v h.sorted;
      said =
          let one : List (Option (K × V)) = Some (k, v) ∷ [] in
          let p = IsPermutation-sym (some ((k, v) ∷ es)) (some (insert_entry cmp es k v)) (IsPermutation-map (λ e. Some e) ((k, v) ∷ es) (insert_entry cmp es k v) (put_permutes es k v none)) in
          let q = IsPermutation-cons (Some (k, v)) (some es) (map read rows) h.said in
          let s = IsPermutation-sym (map read rows ++ one) (Some (k, v) ∷ map read rows) (IsPermutation-to_front (map read rows) (Some (k, v))) in
          let all = IsPermutation-trans (some (insert_entry cmp es k v)) (Some (k, v) ∷ some es) (map read rows ++ one) p (IsPermutation-trans (Some (k, v) ∷ some es) (Some (k, v) ∷ map read rows) (map read rows ++ one) q s) in
          subst (IsPermutation (some (insert_entry cmp es k v))) (sym (map-append read rows (r ∷ []) ∙ ap (λ o. map read rows ++ o ∷ []) is)) all;
    }

    -- in another order the rows say the same
    pub holds_permuted : (xs ys : List Row) (es : List (K × V)) → IsPermutation xs ys → Holds cmp read xs es → Holds cmp read ys es
    holds_permuted xs ys es p h = record { sorted = h.sorted; said = IsPermutation-trans (some es) (map read xs) (map read ys) h.said (IsPermutation-map read xs ys p) }

    -- a row that says nothing
    pub unread : (front : List Row) (r : Row) (left : List Row) → read r ≡ None → (es : List (K × V)) → ¬ Holds cmp read (front ++ r ∷ left) es
    unread front r left is es h =
        let rows = front ++ r ∷ left in
        let there = has_permuted (map read rows) (some es) (read r) (IsPermutation-sym (some es) (map read rows) h.said) (has_mapped read rows r (has_middle front r left)) in
        let e = mapped_has (λ (x : K × V). Some x) es (read r) there in
        none_is e.0 (sym is ∙ e.2)

    -- ---- a key that was there before

    abbrev alike : Option (K × V) → Option (K × V) → Bool
    alike (Some a) (Some b) = is_eq (cmp a.0 b.0)
    alike (Some a) None = false
    alike None b = false

    alike_flips : (x y : Option (K × V)) → alike x y ≡ alike y x
    alike_flips (Some a) (Some b) = ap is_eq (total.antisymm a.0 b.0) ∙ is_eq-reverse (cmp b.0 a.0)
    alike_flips (Some a) None = refl
    alike_flips None (Some b) = refl
    alike_flips None None = refl

    apart_all : (a : K × V) (es : List (K × V)) → AllByRecursion (λ y. cmp a.0 y ≡ Less) (keys_of es) → AllByRecursion (λ y. alike (Some a) y ≡ false) (some es)
    apart_all a [] all = tt
    apart_all a (e ∷ es) all = (ap is_eq all.0, apart_all a es all.1)

    distinct : (es : List (K × V)) → IsStrictlySortedBy cmp (keys_of es) → IsDistinct alike (some es)
    unfolding IsStrictlySortedBy IsDistinct
    distinct [] s = tt
    distinct (e ∷ es) s = (apart_all e es s.0, distinct es s.1)

    clash : (es : List (K × V)) (k : K) (v w : V) (left : List (Option (K × V))) → IsDistinct alike (some es ++ Some (k, v) ∷ left) → lookup (is_at (cmp k)) es ≡ Some w → ⊥
    unfolding IsDistinct
    clash [] k v w left d found = none_is w found
    clash (e ∷ es) k v w left d found = elim (cases_Bool (is_eq (cmp k e.0))) [
      | inl t ↦ both_ways _ (in_append (λ y. alike (Some e) y ≡ false) (some es) (Some (k, v)) left d.0) (alike_flips (Some e) (Some (k, v)) ∙ t)
      | inr f ↦ clash es k v w left d.1 (ap (λ b. cond b (Some e.1) (lookup (is_at (cmp k)) es)) (sym f) ∙ found)
    ]

    pub twice : (front : List Row) (r : Row) (left : List Row) (es : List (K × V)) (k : K) (v w : V) → Holds cmp read front es → read r ≡ Some (k, v) → lookup (is_at (cmp k)) es ≡ Some w
        → (all : List (K × V)) → ¬ Holds cmp read (front ++ r ∷ left) all
    twice front r left es k v w h is found all whole =
        let rows = front ++ r ∷ left in
        let tail = Some (k, v) ∷ map read left in
        let parts : map read rows ≡ map read front ++ tail = map-append read front (r ∷ left) ∙ ap (λ o. map read front ++ o ∷ map read left) is in
        let d = IsDistinct-IsPermutation alike alike_flips (some all) (map read rows) whole.said (distinct all whole.sorted) in
        let at = subst (IsDistinct alike) parts d in
        let p = IsPermutation-sym (some es ++ tail) (map read front ++ tail) (IsPermutation-append (some es) (map read front) tail tail h.said (IsPermutation-refl tail)) in
        clash es k v w (map read left) (IsDistinct-IsPermutation alike alike_flips (map read front ++ tail) (some es ++ tail) p at) found

    -- ---- rows say one list of entries

    later : (a : K) (es : List (K × V)) (e : K × V) → Has es e → AllByRecursion (λ y. cmp a y ≡ Less) (keys_of es) → cmp a e.0 ≡ Less
    later a [] e h all = absurd h
    later a (x ∷ es) e (inl same) all = ap (λ (y : K × V). cmp a y.0) same ∙ all.0
    later a (x ∷ es) e (inr h) all = later a es e h all.1

    same_members : (es fs : List (K × V)) → IsStrictlySortedBy cmp (keys_of es) → IsStrictlySortedBy cmp (keys_of fs) → ((e : K × V) → Has es e → Has fs e) → ((e : K × V) → Has fs e → Has es e) → es ≡ fs
    unfolding IsStrictlySortedBy
    same_members [] [] s t to back = refl
    same_members [] (y ∷ ys) s t to back = absurd (back y (inl refl))
    same_members (x ∷ xs) [] s t to back = absurd (to x (inl refl))
    same_members (x ∷ xs) (y ∷ ys) s t to back =
        let first : x ≡ y = elim (to x (inl refl)) [
          | inl e ↦ e
          | inr hx ↦ elim (back y (inl refl)) [
            | inl e ↦ sym e
            | inr hy ↦ absurd (never cmp total y.0 x.0 (later y.0 ys x hx t.0) (later x.0 xs y hy s.0))
          ]
        ] in
        let here : (z : K × V) → Has xs z → z ≡ y → ⊥ = λ z hz e. let low = later x.0 xs z hz s.0 in let at : cmp x.0 x.0 ≡ Less = ap (λ (u : K × V). cmp x.0 u.0) (first ∙ sym e) ∙ low in never cmp total x.0 x.0 at at in
        let there : (z : K × V) → Has ys z → z ≡ x → ⊥ = λ z hz e. let low = later y.0 ys z hz t.0 in let at : cmp y.0 y.0 ≡ Less = ap (λ (u : K × V). cmp y.0 u.0) (sym first ∙ sym e) ∙ low in never cmp total y.0 y.0 at at in
        let rest = same_members xs ys s.1 t.1
        (λ z hz. elim (to z (inr hz)) [ inl e ↦ absurd (here z hz e) | inr k ↦ k ])
        (λ z hz. elim (back z (inr hz)) [ inl e ↦ absurd (there z hz e) | inr k ↦ k ]) in
        λ i. first i ∷ rest i

    shared : (rows : List Row) (es fs : List (K × V)) → Holds cmp read rows es → Holds cmp read rows fs → (e : K × V) → Has es e → Has fs e
    shared rows es fs h k e there =
        let p = IsPermutation-trans (some es) (map read rows) (some fs) h.said (IsPermutation-sym (some fs) (map read rows) k.said) in
        let found = mapped_has (λ (x : K × V). Some x) fs (Some e) (has_permuted (some es) (some fs) (Some e) p (has_mapped (λ (x : K × V). Some x) es e there)) in
        let same : e ≡ found.0 = let is = found.2 in cc in
        subst (Has fs) (sym same) found.1

    pub one_held : (rows : List Row) (es fs : List (K × V)) → Holds cmp read rows es → Holds cmp read rows fs → es ≡ fs
    one_held rows es fs h k = same_members es fs h.sorted k.sorted (shared rows es fs h k) (shared rows fs es k h)

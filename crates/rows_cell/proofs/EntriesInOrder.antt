-- Entries in order of their keys stay so, and what a put and a removal do to them.
use Rattle.std.proofs.Common.{◌≡◌, List, [], ◌∷◌, Bool, true, false, cond, Some, Ordering, Less, Equal, Greater, refl, sym, ap, ◌∙◌}
use Rattle.std.specs.Prelude.{◌&&◌, not, filter}
use Rattle.std.specs.Ordering.{is_eq, match_ordering, ordering_reverse, nat_cmp}
use Rattle.std.specs.List.{AllByRecursion, list_all}
use Rattle.std.specs.List.Sorted.{IsStrictlySortedBy}
use Rattle.std.specs.Cmp.{IsTotalOrder}
use Rattle.std.specs.Map.{keys_of, lookup, set_value, remove_entry}
use Rattle.std.specs.BTreeMap.{is_at, insert_entry}
use Rattle.std.proofs.lemmas.Bool.{and_from}
use Rattle.std.proofs.lemmas.Map.{lookup-none}
use Rattle.std.proofs.lemmas.Map.Entries.{none_below_head}
use Rattle.collections.proofs.Entries.{eq_at}

-- ---- the order of two keys

turned : {K : Type 0} (R : K → K → Ordering) → IsTotalOrder R → (x y : K) → R x y ≡ Greater → R y x ≡ Less
turned R total x y h = total.antisymm y x ∙ ap ordering_reverse h

after : {K : Type 0} (R : K → K → Ordering) → IsTotalOrder R → (x y : K) → R x y ≡ Less → is_at (R y) x ≡ false
after R total x y h = ap is_eq (total.antisymm y x ∙ ap ordering_reverse h)

reversed_eq : (o : Ordering) → is_eq (ordering_reverse o) ≡ is_eq o
reversed_eq Less = refl
reversed_eq Equal = refl
reversed_eq Greater = refl

-- ---- a property of each key

keys_gone : {K V : Type 0} (P : K → Type 0) (test : K → Bool) (es : List (K × V)) → AllByRecursion P (keys_of es) → AllByRecursion P (keys_of (remove_entry test es))
keys_gone P test [] h = h
keys_gone {K} {V} P test (e ∷ es) h =
    elim (test e.0) as (λ b. AllByRecursion P (keys_of (cond b es (e ∷ remove_entry test es)))) [ true ↦ h.1 | false ↦ (h.0, keys_gone P test es h.1) ]

keys_kept : {K V : Type 0} (P : K → Type 0) (keep : K × V → Bool) (es : List (K × V)) → AllByRecursion P (keys_of es) → AllByRecursion P (keys_of (filter keep es))
keys_kept P keep [] h = h
keys_kept {K} {V} P keep (e ∷ es) h =
    elim (keep e) as (λ b. AllByRecursion P (keys_of (cond b (e ∷ filter keep es) (filter keep es)))) [ true ↦ (h.0, keys_kept P keep es h.1) | false ↦ keys_kept P keep es h.1 ]

keys_put : {K V : Type 0} (P : K → Type 0) (cmp : K → K → Ordering) (es : List (K × V)) (k : K) (v : V) → AllByRecursion P (keys_of es) → P k → AllByRecursion P (keys_of (insert_entry cmp es k v))
keys_put P cmp [] k v h new = (new, tt)
keys_put {K} {V} P cmp (e ∷ es) k v h new =
    elim (cmp k e.0) as (λ o. AllByRecursion P (keys_of (match_ordering o ((k, v) ∷ e ∷ es) ((e.0, v) ∷ es) (e ∷ insert_entry cmp es k v)))) [
      | Less ↦ (new, h)
      | Equal ↦ h
      | Greater ↦ (h.0, keys_put P cmp es k v h.1 new)
    ]

-- ---- the order

pub sorted_gone : {K V : Type 0} (cmp : K → K → Ordering) (test : K → Bool) (es : List (K × V)) → IsStrictlySortedBy cmp (keys_of es) → IsStrictlySortedBy cmp (keys_of (remove_entry test es))
unfolding IsStrictlySortedBy
sorted_gone cmp test [] h = h
sorted_gone {K} {V} cmp test (e ∷ es) h =
    elim (test e.0) as (λ b. IsStrictlySortedBy cmp (keys_of (cond b es (e ∷ remove_entry test es)))) [
      | true ↦ h.1
      | false ↦ (keys_gone (λ y. cmp e.0 y ≡ Less) test es h.0, sorted_gone cmp test es h.1)
    ]

pub sorted_kept : {K V : Type 0} (cmp : K → K → Ordering) (keep : K × V → Bool) (es : List (K × V)) → IsStrictlySortedBy cmp (keys_of es) → IsStrictlySortedBy cmp (keys_of (filter keep es))
unfolding IsStrictlySortedBy
sorted_kept cmp keep [] h = h
sorted_kept {K} {V} cmp keep (e ∷ es) h =
    elim (keep e) as (λ b. IsStrictlySortedBy cmp (keys_of (cond b (e ∷ filter keep es) (filter keep es)))) [
      | true ↦ (keys_kept (λ y. cmp e.0 y ≡ Less) keep es h.0, sorted_kept cmp keep es h.1)
      | false ↦ sorted_kept cmp keep es h.1
    ]

below_all : {K V : Type 0} (cmp : K → K → Ordering) → IsTotalOrder cmp → (k x : K) (es : List (K × V)) → cmp k x ≡ Less → AllByRecursion (λ y. cmp x y ≡ Less) (keys_of es) → AllByRecursion (λ y. cmp k y ≡ Less) (keys_of es)
below_all cmp total k x [] h all = tt
below_all {K} {V} cmp total k x (e ∷ es) h all = (total.trans k x e.0 h all.0, below_all cmp total k x es h all.1)

pub sorted_put : {K V : Type 0} (cmp : K → K → Ordering) → IsTotalOrder cmp → (es : List (K × V)) (k : K) (v : V) → IsStrictlySortedBy cmp (keys_of es) → IsStrictlySortedBy cmp (keys_of (insert_entry cmp es k v))
unfolding IsStrictlySortedBy
sorted_put cmp total [] k v h = (tt, tt)
sorted_put {K} {V} cmp total (e ∷ es) k v h =
    (elim (cmp k e.0) as (λ o. cmp k e.0 ≡ o → IsStrictlySortedBy cmp (keys_of (match_ordering o ((k, v) ∷ e ∷ es) ((e.0, v) ∷ es) (e ∷ insert_entry cmp es k v)))) [
      | Less ↦ (λ c. ((c, below_all cmp total k e.0 es c h.0), h))
      | Equal ↦ (λ c. h)
      | Greater ↦ (λ c. (keys_put (λ y. cmp e.0 y ≡ Less) cmp es k v h.0 (turned cmp total k e.0 c), sorted_put cmp total es k v h.1))
    ]) refl

-- ---- a put where the key is there sets its value

pub put_is_set : {K V : Type 0} (cmp : K → K → Ordering) → IsTotalOrder cmp → (es : List (K × V)) (k : K) (v w : V) → IsStrictlySortedBy cmp (keys_of es) → lookup (is_at (cmp k)) es ≡ Some w → insert_entry cmp es k v ≡ set_value (is_at (cmp k)) es v
unfolding IsStrictlySortedBy
put_is_set cmp total [] k v w sorted found = cc
put_is_set {K} {V} cmp total (e ∷ es) k v w sorted found =
    (elim (cmp k e.0) as (λ o. cmp k e.0 ≡ o → match_ordering o ((k, v) ∷ e ∷ es) ((e.0, v) ∷ es) (e ∷ insert_entry cmp es k v) ≡ cond (is_eq o) ((e.0, v) ∷ es) (e ∷ set_value (is_at (cmp k)) es v)) [
      | Less ↦ (λ c. let none = lookup-none (is_at (cmp k)) (e ∷ es) (none_below_head total k e es sorted c) in cc)
      | Equal ↦ (λ c. refl)
      | Greater ↦ (λ c. ap (λ xs. e ∷ xs) (put_is_set cmp total es k v w sorted.1 (rw c at found)))
    ]) refl

-- ---- a key that is taken away is there no more

apart : {K : Type 0} (cmp : K → K → Ordering) → IsTotalOrder cmp → (k x : K) → is_at (cmp k) x ≡ false → not (is_at (cmp x) k) ≡ true
apart cmp total k x h = ap not (ap is_eq (total.antisymm x k) ∙ reversed_eq (cmp k x) ∙ h)

none_behind : {K V : Type 0} (cmp : K → K → Ordering) → IsTotalOrder cmp → (k x : K) (es : List (K × V)) → cmp k x ≡ Equal → AllByRecursion (λ y. cmp x y ≡ Less) (keys_of es) → list_all (λ e. not (is_at (cmp e.0) k)) es ≡ true
none_behind cmp total k x [] same h = refl
none_behind {K} {V} cmp total k x (e ∷ es) same h =
    and_from (not (is_at (cmp e.0) k)) (list_all (λ d. not (is_at (cmp d.0) k)) es) (ap not (after cmp total k e.0 (total.congr k x e.0 same ∙ h.0))) (none_behind cmp total k x es same h.1)

pub gone_for_good : {K V : Type 0} (cmp : K → K → Ordering) → IsTotalOrder cmp → (k : K) (es : List (K × V)) → IsStrictlySortedBy cmp (keys_of es) → list_all (λ e. not (is_at (cmp e.0) k)) (remove_entry (is_at (cmp k)) es) ≡ true
unfolding IsStrictlySortedBy
gone_for_good cmp total k [] h = refl
gone_for_good {K} {V} cmp total k (e ∷ es) h =
    let none : List (K × V) → Bool = list_all (λ x. not (is_at (cmp x.0) k)) in
    (elim (is_at (cmp k) e.0) as (λ b. is_at (cmp k) e.0 ≡ b → none (cond b es (e ∷ remove_entry (is_at (cmp k)) es)) ≡ true) [
      | true ↦ (λ c. none_behind cmp total k e.0 es (eq_at (cmp k e.0) c) h.0)
      | false ↦ (λ c. and_from (not (is_at (cmp e.0) k)) (none (remove_entry (is_at (cmp k)) es)) (apart cmp total k e.0 c) (gone_for_good cmp total k es h.1))
    ]) refl

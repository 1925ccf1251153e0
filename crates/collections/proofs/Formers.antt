-- What was put and taken back leaves the entries as they were.
use Rattle.std.proofs.Common.{◌≡◌, List, [], ◌∷◌, Bool, true, false, cond, Option, Some, None, Ordering, Less, Equal, Greater, refl, ap, ◌∙◌}
use Rattle.std.specs.Ordering.{is_eq, match_ordering, ordering_reverse}
use Rattle.std.specs.List.{AllByRecursion}
use Rattle.std.specs.List.Sorted.{IsStrictlySortedBy}
use Rattle.std.specs.Map.{keys_of, lookup, set_value}
use Rattle.std.specs.BTreeMap.{is_at, insert_entry}
use Rattle.std.specs.Cmp.{IsTotalOrder}
use Rattle.collections.specs.Tables.{with_former}

fixed : (o : Ordering) → o ≡ ordering_reverse o → o ≡ Equal
fixed Less h = cc
fixed Equal h = refl
fixed Greater h = cc

same : {K : Type 0} (R : K → K → Ordering) → IsTotalOrder R → (k : K) → R k k ≡ Equal
same R total k = fixed (R k k) (total.antisymm k k)

-- a key before all others is not among them
absent : {K V : Type 0} (R : K → K → Ordering) → IsTotalOrder R → (k x : K) (es : List (K × V)) → R k x ≡ Less → AllByRecursion (λ z. R x z ≡ Less) (keys_of es) → lookup (is_at (R k)) es ≡ None
absent R total k x [] h all = refl
absent R total k x (e ∷ es) h all = rw (total.trans k x e.0 h all.0) (absent R total k x es h all.1)

-- what stands before the key stays
past : {K V : Type 0} (R : K → K → Ordering) (e : K × V) (es : List (K × V)) (k : K) (former : Option V) → R k e.0 ≡ Greater → with_former R (e ∷ es) k former ≡ e ∷ with_former R es k former
past R e es k None h = rw h refl
past R e es k (Some v) h = rw h refl

pub put_back : {K V : Type 0} (R : K → K → Ordering) → IsTotalOrder R → (es : List (K × V)) (k : K) (v : V) → IsStrictlySortedBy R (keys_of es) → with_former R (insert_entry R es k v) k (lookup (is_at (R k)) es) ≡ es
unfolding IsStrictlySortedBy
put_back R total [] k v sorted = rw (same R total k) refl
put_back {K} {V} R total (e ∷ es) k v sorted =
    (elim (R k e.0) as (λ o. R k e.0 ≡ o → with_former R (match_ordering o ((k, v) ∷ e ∷ es) ((e.0, v) ∷ es) (e ∷ insert_entry R es k v)) k (cond (is_eq o) (Some e.1) (lookup (is_at (R k)) es)) ≡ e ∷ es) [
      | Less ↦ (λ h. rw (absent R total k e.0 es h sorted.0, same R total k) refl)
      | Equal ↦ (λ h. rw h refl)
      | Greater ↦ (λ h. past R e (insert_entry R es k v) k (lookup (is_at (R k)) es) h ∙ ap (λ xs. e ∷ xs) (put_back R total es k v sorted.1))
    ]) refl

-- a value for a key that isn't there
pub set_absent : {K V : Type 0} (test : K → Bool) (es : List (K × V)) (v : V) → lookup test es ≡ None → set_value test es v ≡ es
set_absent test [] v h = refl
set_absent {K} {V} test (e ∷ es) v h =
    (elim (test e.0) as (λ b. cond b (Some e.1) (lookup test es) ≡ None → cond b ((e.0, v) ∷ es) (e ∷ set_value test es v) ≡ e ∷ es) [
      | true ↦ (λ k. cc)
      | false ↦ (λ k. ap (λ xs. e ∷ xs) (set_absent test es v k))
    ]) h

-- What is found among entries in the order of their keys.
use Rattle.std.proofs.Common.{◌≡◌, List, [], ◌∷◌, Bool, true, false, cond, Some, None, Ordering, Less, refl, sym, ap, subst, ◌∙◌}
use Rattle.std.specs.Prelude.{◌||◌, ◌&&◌, find}
use Rattle.std.specs.List.{AllByRecursion, list_any}
use Rattle.std.specs.List.Sorted.{IsStrictlySortedBy}
use Rattle.std.specs.Cmp.{IsTotalOrder, tied_itself}
use Rattle.std.specs.Map.{keys_of, lookup}
use Rattle.std.specs.BTreeMap.{is_at}
use Rattle.std.proofs.lemmas.Map.Lookups.{CmpEqualImpliesEq}
use Rattle.collections.proofs.Entries.{eq_at}
use Rattle.rows_cell.proofs.SortedLookups.{found_none}

-- ---- tests

pub either_way : (a b : Bool) → (a ≡ true → b ≡ true) → (b ≡ true → a ≡ true) → a ≡ b
either_way true true h k = refl
either_way true false h k = sym (h refl)
either_way false true h k = k refl
either_way false false h k = refl

pub first_of_both : (a b : Bool) → (a && b) ≡ true → a ≡ true
first_of_both true b h = refl
first_of_both false b h = h

or_first : (a b : Bool) → a ≡ true → (a || b) ≡ true
or_first a b h = rw h refl

or_rest : (a b : Bool) → b ≡ true → (a || b) ≡ true
or_rest true b h = refl
or_rest false b h = h

-- one of them passes
pub one_passes : {X : Type 0} (test : X → Bool) (xs : List X) → list_any test xs ≡ true → (x : X) × (test x ≡ true)
one_passes test [] h = absurd (cc)
one_passes {X} test (x ∷ xs) h =
    (elim (test x) as (λ b. test x ≡ b → (b || list_any test xs) ≡ true → (y : X) × (test y ≡ true)) [
      | true ↦ (λ c k. (x, c))
      | false ↦ (λ c k. one_passes test xs k)
    ]) refl h

-- ---- entries in order

pair : {K V : Type 0} (k : K) (v : V) (e : K × V) → k ≡ e.0 → v ≡ e.1 → (k, v) ≡ e
pair {K} {V} k v e a b = let t : ◌≡◌ {A = K × V} (k, v) e = λ i. (a i, b i) in t

pub same_key : {K : Type 0} (cmp : K → K → Ordering) → CmpEqualImpliesEq cmp → (q k : K) → is_at (cmp q) k ≡ true → q ≡ k
same_key cmp exact q k h = exact q k (eq_at (cmp q k) h)

module _ {K V : Type 0} (cmp : K → K → Ordering) (total : IsTotalOrder cmp) (exact : CmpEqualImpliesEq cmp) where
  pub at_head : (e : K × V) (es : List (K × V)) → lookup (is_at (cmp e.0)) (e ∷ es) ≡ Some e.1
  at_head e es = rw (tied_itself total e.0) refl

  -- what is found behind the first is found among all
  pub found_behind : (e : K × V) (es : List (K × V)) (q : K) (w : V) → AllByRecursion (λ y. cmp e.0 y ≡ Less) (keys_of es) → lookup (is_at (cmp q)) es ≡ Some w → lookup (is_at (cmp q)) (e ∷ es) ≡ Some w
  found_behind e es q w behind h =
      (elim (is_at (cmp q) e.0) as (λ b. is_at (cmp q) e.0 ≡ b → cond b (Some e.1) (lookup (is_at (cmp q)) es) ≡ Some w) [
        | true ↦ (λ c. let none = found_none cmp total exact q e.0 es behind c in absurd (cc))
        | false ↦ (λ c. h)
      ]) refl

  -- and is above the first
  pub above_head : (x : K) (es : List (K × V)) (q : K) (w : V) → AllByRecursion (λ y. cmp x y ≡ Less) (keys_of es) → lookup (is_at (cmp q)) es ≡ Some w → cmp x q ≡ Less
  above_head x [] q w behind h = absurd (cc)
  above_head x (e ∷ es) q w behind h =
      (elim (is_at (cmp q) e.0) as (λ b. is_at (cmp q) e.0 ≡ b → cond b (Some e.1) (lookup (is_at (cmp q)) es) ≡ Some w → cmp x q ≡ Less) [
        | true ↦ (λ c k.
            let P : K → Type 0 = λ y. cmp x y ≡ Less in
            subst P (sym (same_key cmp exact q e.0 c)) behind.0)
        | false ↦ (λ c k. above_head x es q w behind.1 k)
      ]) refl h

  -- ---- whether any passes

  pub any_found : (test : K × V → Bool) (es : List (K × V)) (k : K) (v : V) → lookup (is_at (cmp k)) es ≡ Some v → test (k, v) ≡ true → list_any test es ≡ true
  any_found test [] k v h t = absurd (cc)
  any_found test (e ∷ es) k v h t =
      (elim (is_at (cmp k) e.0) as (λ b. is_at (cmp k) e.0 ≡ b → cond b (Some e.1) (lookup (is_at (cmp k)) es) ≡ Some v → (test e || list_any test es) ≡ true) [
        | true ↦ (λ c g.
            let value : v ≡ e.1 = cc in
            or_first (test e) (list_any test es) (ap test (sym (pair k v e (same_key cmp exact k e.0 c) value)) ∙ t))
        | false ↦ (λ c g. or_rest (test e) (list_any test es) (any_found test es k v g t))
      ]) refl h

  pub found_any : (test : K × V → Bool) (es : List (K × V)) → IsStrictlySortedBy cmp (keys_of es) → list_any test es ≡ true → (k : K) × (v : V) × (lookup (is_at (cmp k)) es ≡ Some v) × (test (k, v) ≡ true)
  unfolding IsStrictlySortedBy
  found_any test [] sorted h = absurd (cc)
  found_any test (e ∷ es) sorted h =
      (elim (test e) as (λ b. test e ≡ b → (b || list_any test es) ≡ true → (k : K) × (v : V) × (lookup (is_at (cmp k)) (e ∷ es) ≡ Some v) × (test (k, v) ≡ true)) [
        | true ↦ (λ c g. (e.0, e.1, at_head e es, c))
        | false ↦ (λ c g.
            let t = found_any test es sorted.1 g in
            (t.0, t.1, found_behind e es t.0 t.1 sorted.0 t.2, t.3))
      ]) refl h

  -- ---- the first that passes

  pub none_found : (test : K × V → Bool) (es : List (K × V)) → IsStrictlySortedBy cmp (keys_of es) → ((q : K) (w : V) → lookup (is_at (cmp q)) es ≡ Some w → test (q, w) ≡ true → ⊥) → find test es ≡ None
  unfolding IsStrictlySortedBy
  none_found test [] sorted h = refl
  none_found test (e ∷ es) sorted h =
      (elim (test e) as (λ b. test e ≡ b → cond b (Some e) (find test es) ≡ None) [
        | true ↦ (λ c. absurd (h e.0 e.1 (at_head e es) c))
        | false ↦ (λ c. none_found test es sorted.1 (λ q w f t. h q w (found_behind e es q w sorted.0 f) t))
      ]) refl

  pub first_found : (test : K × V → Bool) (es : List (K × V)) (k : K) (v : V) → IsStrictlySortedBy cmp (keys_of es) → lookup (is_at (cmp k)) es ≡ Some v → test (k, v) ≡ true → ((q : K) (w : V) → lookup (is_at (cmp q)) es ≡ Some w → test (q, w) ≡ true → cmp q k ≡ Less → ⊥) → find test es ≡ Some (k, v)
  unfolding IsStrictlySortedBy
  first_found test [] k v sorted h t lowest = absurd (cc)
  first_found test (e ∷ es) k v sorted h t lowest =
      (elim (is_at (cmp k) e.0) as (λ b. is_at (cmp k) e.0 ≡ b → cond b (Some e.1) (lookup (is_at (cmp k)) es) ≡ Some v → cond (test e) (Some e) (find test es) ≡ Some (k, v)) [
        | true ↦ (λ c g.
            let value : v ≡ e.1 = cc in
            let is : (k, v) ≡ e = pair k v e (same_key cmp exact k e.0 c) value in
            let passes : test e ≡ true = ap test (sym is) ∙ t in
            rw passes (ap (λ x. Some x) (sym is)))
        | false ↦ (λ c g.
            let below : cmp e.0 k ≡ Less = above_head e.0 es k v sorted.0 g in
            let rest = first_found test es k v sorted.1 g t (λ q w f u less. lowest q w (found_behind e es q w sorted.0 f) u less) in
            (elim (test e) as (λ b. test e ≡ b → cond b (Some e) (find test es) ≡ Some (k, v)) [
              | true ↦ (λ d. absurd (lowest e.0 e.1 (at_head e es) d below))
              | false ↦ (λ d. rest)
            ]) refl)
      ]) refl h

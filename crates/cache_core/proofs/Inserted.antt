-- Entries in the order of installing, as a key is inserted or removed. The test decides whether two keys are the same.
use Rattle.std.proofs.Common.{◌≡◌, ℕ, ◌+◌, ◌≤◌, Bool, true, false, cond, List, [], ◌∷◌, length, Some, refl, ◌∙◌, arith, is_some, suc, if◌then◌else◌}
use Rattle.std.specs.List.{AllByRecursion, IsDistinct}
use Rattle.std.specs.Map.{keys_of, lookup, remove_entry}
use Rattle.indexmap.specs.IndexMap.{insert_entry}
use Rattle.collections.proofs.Entries.{cond_twice, cond_apart}

-- one more where the key is new
abbrev pub grown : Bool → ℕ → ℕ
grown true n = n
grown false n = n + 1

module _ {K X : Type 0} (eq : K → K → Bool) (exact : (x y : K) → eq x y ≡ true → x ≡ y) (same : (x : K) → eq x x ≡ true) where
  -- what stands at any key after a key is inserted
  pub lookup_inserted : (es : List (K × X)) (k : K) (v : X) (q : K) → lookup (eq q) (insert_entry eq es k v) ≡ cond (eq q k) (Some v) (lookup (eq q) es)
  lookup_inserted [] k v q = refl
  lookup_inserted (e ∷ es) k v q =
      (elim (eq k e.0) as (λ b. eq k e.0 ≡ b → lookup (eq q) (if b then (e.0, v) ∷ es else e ∷ insert_entry eq es k v) ≡ cond (eq q k) (Some v) (cond (eq q e.0) (Some e.1) (lookup (eq q) es))) [
        | true ↦ (λ h. let s : k ≡ e.0 = exact k e.0 h in rw s (cond_twice (eq q e.0) (Some v) (Some e.1) (lookup (eq q) es)))
        | false ↦ (λ h.
            rw (lookup_inserted es k v q)
            (cond_apart (eq q e.0) (eq q k) (Some e.1) (Some v) (lookup (eq q) es) (λ a b.
            let x : q ≡ e.0 = exact q e.0 a in
            let y : q ≡ k = exact q k b in
            let z = same q in cc)))
      ]) refl

module _ {K X : Type 0} (eq : K → K → Bool) where
  -- what holds of each key and of one more holds after that one is inserted
  all_inserted : (P : K → Type 0) (es : List (K × X)) (k : K) (v : X) → P k → AllByRecursion P (keys_of es) → AllByRecursion P (keys_of (insert_entry eq es k v))
  all_inserted P [] k v here all = (here, tt)
  all_inserted P (e ∷ es) k v here all =
      elim (eq k e.0) as (λ b. AllByRecursion P (keys_of (if b then (e.0, v) ∷ es else e ∷ insert_entry eq es k v))) [
        | true ↦ all
        | false ↦ (all.0, all_inserted P es k v here all.1)
      ]

  pub distinct_inserted : ((x y : K) → eq x y ≡ eq y x) → (es : List (K × X)) (k : K) (v : X) → IsDistinct eq (keys_of es) → IsDistinct eq (keys_of (insert_entry eq es k v))
  unfolding IsDistinct
  distinct_inserted flips [] k v d = (tt, tt)
  distinct_inserted flips (e ∷ es) k v d =
      (elim (eq k e.0) as (λ b. eq k e.0 ≡ b → IsDistinct eq (keys_of (if b then (e.0, v) ∷ es else e ∷ insert_entry eq es k v))) [
        | true ↦ (λ h. d)
        | false ↦ (λ h. (all_inserted (λ y. eq e.0 y ≡ false) es k v (flips e.0 k ∙ h) d.0, distinct_inserted flips es k v d.1))
      ]) refl

  -- what holds of each key holds after one is taken away
  pub all_removed : (P : K → Type 0) (test : K → Bool) (es : List (K × X)) → AllByRecursion P (keys_of es) → AllByRecursion P (keys_of (remove_entry test es))
  all_removed P test [] all = tt
  all_removed P test (e ∷ es) all =
      elim (test e.0) as (λ b. AllByRecursion P (keys_of (cond b es (e ∷ remove_entry test es)))) [ true ↦ all.1 | false ↦ (all.0, all_removed P test es all.1) ]

  pub distinct_removed : (test : K → Bool) (es : List (K × X)) → IsDistinct eq (keys_of es) → IsDistinct eq (keys_of (remove_entry test es))
  unfolding IsDistinct
  distinct_removed test [] d = tt
  distinct_removed test (e ∷ es) d =
      elim (test e.0) as (λ b. IsDistinct eq (keys_of (cond b es (e ∷ remove_entry test es)))) [
        | true ↦ d.1
        | false ↦ (all_removed (λ y. eq e.0 y ≡ false) test es d.0, distinct_removed test es d.1)
      ]

  -- a new key makes one entry more
  pub length_inserted : (es : List (K × X)) (k : K) (v : X) → length (insert_entry eq es k v) ≡ grown (is_some (lookup (eq k) es)) (length es)
  length_inserted [] k v = refl
  length_inserted (e ∷ es) k v =
      elim (eq k e.0) as (λ b. length (if b then (e.0, v) ∷ es else e ∷ insert_entry eq es k v) ≡ grown (is_some (cond b (Some e.1) (lookup (eq k) es))) (suc (length es))) [
        | true ↦ refl
        | false ↦ suc_grown (is_some (lookup (eq k) es)) (length es) (length (insert_entry eq es k v)) (length_inserted es k v)
      ]
    where
      suc_grown : (b : Bool) (n m : ℕ) → m ≡ grown b n → suc m ≡ grown b (suc n)
      suc_grown true n m h = omega (arith, h)
      suc_grown false n m h = omega (arith, h)

  pub length_removed : (test : K → Bool) (es : List (K × X)) → length (remove_entry test es) ≤ length es
  length_removed test [] = omega arith
  length_removed test (e ∷ es) =
      elim (test e.0) as (λ b. length (cond b es (e ∷ remove_entry test es)) ≤ suc (length es)) [ true ↦ omega arith | false ↦ (let h = length_removed test es in omega (arith, h)) ]

pub grown_by_one : (b : Bool) (n : ℕ) → grown b n ≤ n + 1
grown_by_one true n = omega arith
grown_by_one false n = omega arith

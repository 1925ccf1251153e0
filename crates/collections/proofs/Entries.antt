-- Entries that are clones are the same.
use Rattle.std.proofs.Common.{◌≡◌, List, [], ◌∷◌, Bool, true, false, cond, Some, Ordering, Less, Equal, Greater, refl}
use Rattle.std.specs.Ordering.{is_eq, match_ordering}
use Rattle.std.specs.Map.{lookup}
use Rattle.std.specs.BTreeMap.{is_at, insert_entry}
use Rattle.std.proofs.lemmas.Map.Lookups.{CmpEqualImpliesEq}
use Rattle.std.specs.List.{AllZip}
use Rattle.std.proofs.lemmas.List.Elements.{same_from_all_zip}

pairs : {K V : Type 0} (p q : K × V) → p.0 ≡ q.0 → p.1 ≡ q.1 → p ≡ q
pairs {K} {V} p q e f = let t : ◌≡◌ {A = K × V} (p.0, p.1) (q.0, q.1) = rw (e, f) refl in t

pub same_entries : {K V : Type 0} (C : K → K → Type 0) (D : V → V → Type 0) → ((x y : K) → C x y → y ≡ x) → ((x y : V) → D x y → y ≡ x) → (xs ys : List (K × V)) → AllZip (λ p q. C p.0 q.0 × D p.1 q.1) xs ys → ys ≡ xs
same_entries {K} {V} C D exact_key exact_value xs ys h =
    same_from_all_zip (λ p q. C p.0 q.0 × D p.1 q.1) xs ys h (λ x y k. pairs y x (exact_key x.0 y.0 k.0) (exact_value x.1 y.1 k.1))

-- what a look-up finds after a put
pub eq_at : (o : Ordering) → is_eq o ≡ true → o ≡ Equal
eq_at Less h = cc
eq_at Equal h = refl
eq_at Greater h = cc

pub cond_twice : {X : Type 0} (b : Bool) (x y z : X) → cond b x z ≡ cond b x (cond b y z)
cond_twice true x y z = refl
cond_twice false x y z = refl

pub cond_apart : {X : Type 0} (a b : Bool) (x y z : X) → (a ≡ true → b ≡ true → ⊥) → cond a x (cond b y z) ≡ cond b y (cond a x z)
cond_apart true true x y z h = absurd (h refl refl)
cond_apart true false x y z h = refl
cond_apart false true x y z h = refl
cond_apart false false x y z h = refl

pub lookup_put : {K V : Type 0} (cmp : K → K → Ordering) → CmpEqualImpliesEq cmp → ((x : K) → cmp x x ≡ Equal) → (es : List (K × V)) (k : K) (v : V) (q : K) → lookup (is_at (cmp q)) (insert_entry cmp es k v) ≡ cond (is_at (cmp q) k) (Some v) (lookup (is_at (cmp q)) es)
lookup_put cmp exact same [] k v q = refl
lookup_put {K} {V} cmp exact same (e ∷ es) k v q =
    let t : K → Bool = is_at (cmp q) in
    (elim (cmp k e.0) as (λ o. cmp k e.0 ≡ o → lookup t (match_ordering o ((k, v) ∷ e ∷ es) ((e.0, v) ∷ es) (e ∷ insert_entry cmp es k v)) ≡ cond (t k) (Some v) (cond (t e.0) (Some e.1) (lookup t es))) [
      | Less ↦ (λ h. refl)
      | Equal ↦ (λ h. let s : k ≡ e.0 = exact k e.0 h in rw s (cond_twice (t e.0) (Some v) (Some e.1) (lookup t es)))
      | Greater ↦ (λ h.
          rw (lookup_put cmp exact same es k v q)
          (cond_apart (t e.0) (t k) (Some e.1) (Some v) (lookup t es) (λ a b.
          let x : q ≡ e.0 = exact q e.0 (eq_at (cmp q e.0) a) in
          let y : q ≡ k = exact q k (eq_at (cmp q k) b) in
          let z = same q in cc)))
    ]) refl

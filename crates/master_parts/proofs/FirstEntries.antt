-- Entries in order, each found by its key, and the first that passes a test.
use Rattle.std.proofs.Common.{◌≡◌, List, [], ◌∷◌, Bool, true, false, cond, Ordering, Less, Option, Some, None, refl, sym, ap, subst, ◌∙◌}
use Rattle.std.specs.Prelude.{◌||◌, find}
use Rattle.std.specs.List.{AllByRecursion, list_any}
use Rattle.std.specs.List.Sorted.{IsStrictlySortedBy}
use Rattle.std.specs.Map.{keys_of, lookup}
use Rattle.std.specs.BTreeMap.{is_at}
use Rattle.std.specs.Ordering.{ordering_reverse, is_eq}
use Rattle.std.specs.Cmp.{IsTotalOrder, tied_itself}

not_less : {K : Type 0} (cmp : K → K → Ordering) → IsTotalOrder cmp → (a b : K) → cmp a b ≡ Less → is_at (cmp b) a ≡ false
not_less cmp total a b h = ap is_eq (total.antisymm b a ∙ ap ordering_reverse h)

module _ {K V : Type 0} (cmp : K → K → Ordering) (total : IsTotalOrder cmp) where
  abbrev IsFoundIn : List (K × V) → K × V → Type 0
  IsFoundIn es e = lookup (is_at (cmp e.0)) es ≡ Some e.1

  tails : (e : K × V) (all es : List (K × V)) → AllByRecursion (λ y. cmp e.0 y ≡ Less) (keys_of es) → AllByRecursion (IsFoundIn all) es → AllByRecursion (IsFoundIn (e ∷ all)) es
  tails e all [] behind h = tt
  tails e all (f ∷ fs) behind h = (rw (not_less cmp total e.0 f.0 behind.0) h.0, tails e all fs behind.1 h.1)

  pub own_entries : (es : List (K × V)) → IsStrictlySortedBy cmp (keys_of es) → AllByRecursion (IsFoundIn es) es
  unfolding IsStrictlySortedBy
  own_entries [] sorted = tt
  own_entries (e ∷ es) sorted = (rw (tied_itself total e.0) refl, tails e es es sorted.0 (own_entries es sorted.1))

pub all_of_found : {X : Type 0} (P : X → Type 0) (test : X → Bool) (xs : List X) (x : X) → AllByRecursion P xs → find test xs ≡ Some x → P x × (test x ≡ true)
all_of_found P test [] x all h = absurd cc
all_of_found {X} P test (y ∷ ys) x all h =
    (elim (test y) as (λ b. test y ≡ b → cond b (Some y) (find test ys) ≡ Some x → P x × (test x ≡ true)) [
      | true ↦ (λ c k.
          let same : y ≡ x = cc in
          (subst P same all.0, ap test (sym same) ∙ c))
      | false ↦ (λ c k. all_of_found P test ys x all.1 k)
    ]) refl h

pub found_of_any : {X : Type 0} (test : X → Bool) (xs : List X) → list_any test xs ≡ true → (x : X) × (find test xs ≡ Some x)
found_of_any test [] h = absurd cc
found_of_any {X} test (y ∷ ys) h =
    (elim (test y) as (λ b. (b || list_any test ys) ≡ true → (x : X) × (cond b (Some y) (find test ys) ≡ Some x)) [
      | true ↦ (λ k. (y, refl))
      | false ↦ (λ k. found_of_any test ys k)
    ]) h

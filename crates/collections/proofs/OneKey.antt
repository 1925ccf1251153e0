-- What is found at one number, and at any other, once the value of a key is set, put or taken away.
use Rattle.std.proofs.Common.{◌≡◌, ◌≢◌, ℕ, List, [], ◌∷◌, true, false, cond, Some, None, Less, Equal, Greater, refl, sym, ap, ◌∙◌}
use Rattle.std.specs.Option.{option_map}
use Rattle.std.specs.Ordering.{nat_cmp, is_eq, match_ordering}
use Rattle.std.specs.List.{AllByRecursion}
use Rattle.std.specs.List.Sorted.{IsStrictlySortedBy}
use Rattle.std.specs.Map.{keys_of, lookup, set_value, remove_entry}
use Rattle.std.specs.BTreeMap.{is_at, insert_entry}
use Rattle.collections.proofs.Keys.{at_itself, same_key, apart}

-- ---- a value is set where the key is there

pub lookup_set : {V : Type 0} (key : ℕ) (es : List (ℕ × V)) (v : V) → lookup (is_at (nat_cmp key)) (set_value (is_at (nat_cmp key)) es v) ≡ option_map (λ w. v) (lookup (is_at (nat_cmp key)) es)
lookup_set key [] v = refl
lookup_set {V} key (e ∷ es) v =
    (elim (is_at (nat_cmp key) e.0) as (λ b. is_at (nat_cmp key) e.0 ≡ b → lookup (is_at (nat_cmp key)) (cond b ((e.0, v) ∷ es) (e ∷ set_value (is_at (nat_cmp key)) es v)) ≡ option_map (λ (w : V). v) (cond b (Some e.1) (lookup (is_at (nat_cmp key)) es))) [
      | true ↦ (λ h. rw h refl)
      | false ↦ (λ h. rw h (lookup_set key es v))
    ]) refl

pub lookup_set_apart : {V : Type 0} (key q : ℕ) → q ≢ key → (es : List (ℕ × V)) (v : V) → lookup (is_at (nat_cmp q)) (set_value (is_at (nat_cmp key)) es v) ≡ lookup (is_at (nat_cmp q)) es
lookup_set_apart key q differs [] v = refl
lookup_set_apart {V} key q differs (e ∷ es) v =
    (elim (is_at (nat_cmp key) e.0) as (λ b. is_at (nat_cmp key) e.0 ≡ b → lookup (is_at (nat_cmp q)) (cond b ((e.0, v) ∷ es) (e ∷ set_value (is_at (nat_cmp key)) es v)) ≡ cond (is_at (nat_cmp q) e.0) (Some e.1) (lookup (is_at (nat_cmp q)) es)) [
      | true ↦ (λ h. rw (apart q e.0 (λ k. differs (k ∙ sym (same_key key e.0 h)))) refl)
      | false ↦ (λ h. ap (λ o. cond (is_at (nat_cmp q) e.0) (Some e.1) o) (lookup_set_apart key q differs es v))
    ]) refl

-- ---- a value is put

pub lookup_put : {V : Type 0} (key : ℕ) (es : List (ℕ × V)) (v : V) → lookup (is_at (nat_cmp key)) (insert_entry nat_cmp es key v) ≡ Some v
lookup_put key [] v = rw (at_itself key) refl
lookup_put {V} key (e ∷ es) v =
    (elim (nat_cmp key e.0) as (λ o. nat_cmp key e.0 ≡ o → lookup (is_at (nat_cmp key)) (match_ordering o ((key, v) ∷ e ∷ es) ((e.0, v) ∷ es) (e ∷ insert_entry nat_cmp es key v)) ≡ Some v) [
      | Less ↦ (λ h. rw (at_itself key) refl)
      | Equal ↦ (λ h. rw h refl)
      | Greater ↦ (λ h. rw h (lookup_put key es v))
    ]) refl

pub lookup_put_apart : {V : Type 0} (key q : ℕ) → q ≢ key → (es : List (ℕ × V)) (v : V) → lookup (is_at (nat_cmp q)) (insert_entry nat_cmp es key v) ≡ lookup (is_at (nat_cmp q)) es
lookup_put_apart key q differs [] v = rw (apart q key differs) refl
lookup_put_apart {V} key q differs (e ∷ es) v =
    (elim (nat_cmp key e.0) as (λ o. nat_cmp key e.0 ≡ o → lookup (is_at (nat_cmp q)) (match_ordering o ((key, v) ∷ e ∷ es) ((e.0, v) ∷ es) (e ∷ insert_entry nat_cmp es key v)) ≡ cond (is_at (nat_cmp q) e.0) (Some e.1) (lookup (is_at (nat_cmp q)) es)) [
      | Less ↦ (λ h. rw (apart q key differs) refl)
      | Equal ↦ (λ h. rw (apart q e.0 (λ k. differs (k ∙ sym (same_key key e.0 (ap is_eq h))))) refl)
      | Greater ↦ (λ h. ap (λ o. cond (is_at (nat_cmp q) e.0) (Some e.1) o) (lookup_put_apart key q differs es v))
    ]) refl

-- ---- a key is taken away

-- a key below all others isn't among them
below_all : {V : Type 0} (key : ℕ) (es : List (ℕ × V)) → AllByRecursion (λ z. nat_cmp key z ≡ Less) (keys_of es) → lookup (is_at (nat_cmp key)) es ≡ None
below_all key [] all = refl
below_all key (e ∷ es) all = rw all.0 (below_all key es all.1)

pub lookup_removed : {V : Type 0} (key : ℕ) (es : List (ℕ × V)) → IsStrictlySortedBy nat_cmp (keys_of es) → lookup (is_at (nat_cmp key)) (remove_entry (is_at (nat_cmp key)) es) ≡ None
unfolding IsStrictlySortedBy
lookup_removed key [] sorted = refl
lookup_removed {V} key (e ∷ es) sorted =
    (elim (is_at (nat_cmp key) e.0) as (λ b. is_at (nat_cmp key) e.0 ≡ b → lookup (is_at (nat_cmp key)) (cond b es (e ∷ remove_entry (is_at (nat_cmp key)) es)) ≡ None) [
      | true ↦ (λ h. ap (λ k. lookup (is_at (nat_cmp k)) es) (same_key key e.0 h) ∙ below_all e.0 es sorted.0)
      | false ↦ (λ h. rw h (lookup_removed key es sorted.1))
    ]) refl

pub lookup_removed_apart : {V : Type 0} (key q : ℕ) → q ≢ key → (es : List (ℕ × V)) → lookup (is_at (nat_cmp q)) (remove_entry (is_at (nat_cmp key)) es) ≡ lookup (is_at (nat_cmp q)) es
lookup_removed_apart key q differs [] = refl
lookup_removed_apart {V} key q differs (e ∷ es) =
    (elim (is_at (nat_cmp key) e.0) as (λ b. is_at (nat_cmp key) e.0 ≡ b → lookup (is_at (nat_cmp q)) (cond b es (e ∷ remove_entry (is_at (nat_cmp key)) es)) ≡ cond (is_at (nat_cmp q) e.0) (Some e.1) (lookup (is_at (nat_cmp q)) es)) [
      | true ↦ (λ h. rw (apart q e.0 (λ k. differs (k ∙ sym (same_key key e.0 h)))) refl)
      | false ↦ (λ h. ap (λ o. cond (is_at (nat_cmp q) e.0) (Some e.1) o) (lookup_removed_apart key q differs es))
    ]) refl

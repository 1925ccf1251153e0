-- What a put does to tests of all entries, of some entry, and of distinct numbers.
use Rattle.std.proofs.Common.{◌≡◌, ℕ, ◌≤◌, List, [], ◌∷◌, Bool, true, false, cond, Some, Ordering, Less, Equal, Greater, refl, ap, arith}
use Rattle.std.specs.Prelude.{◌&&◌, ◌||◌, ◌==◌, not, nat_lt, map}
use Rattle.std.specs.Ordering.{match_ordering}
use Rattle.std.specs.Cmp.{IsTotalOrder}
use Rattle.std.specs.List.{list_all, list_any}
use Rattle.std.specs.List.Sorted.{IsStrictlySortedBy}
use Rattle.std.specs.Map.{keys_of, lookup}
use Rattle.std.specs.BTreeMap.{is_at, insert_entry}
use Rattle.std.proofs.lemmas.Bool.{and_parts, and_from, or_left, or_right, or_parts, or_from, not-true, not_from_false}
use Rattle.std.proofs.lemmas.Bool.Decides.{nat_tests}
use Rattle.std.proofs.lemmas.Map.{lookup-none}
use Rattle.std.proofs.lemmas.Map.Entries.{none_below_head}
use Rattle.std.proofs.lemmas.Map.Lookups.{CmpEqualImpliesEq}
use Rattle.collections.proofs.Entries.{eq_at}
use Rattle.rows_cell.specs.Sound.{are_distinct}

-- a test that says less
pub all_more : {X : Type 0} (p q : X → Bool) (xs : List X) → ((x : X) → p x ≡ true → q x ≡ true) → list_all p xs ≡ true → list_all q xs ≡ true
all_more p q [] h all = refl
all_more p q (x ∷ xs) h all = let t = and_parts (p x) (list_all p xs) all in and_from (q x) (list_all q xs) (h x t.0) (all_more p q xs h t.1)

-- each entry passes after a put, where the new one does
pub all_put : {K V : Type 0} (cmp : K → K → Ordering) → CmpEqualImpliesEq cmp → (p : K × V → Bool) (es : List (K × V)) (k : K) (v : V) → list_all p es ≡ true → p (k, v) ≡ true → list_all p (insert_entry cmp es k v) ≡ true
all_put cmp exact p [] k v h new = and_from (p (k, v)) true new refl
all_put {K} {V} cmp exact p (e ∷ es) k v h new =
    let t = and_parts (p e) (list_all p es) h in
    (elim (cmp k e.0) as (λ o. cmp k e.0 ≡ o → list_all p (match_ordering o ((k, v) ∷ e ∷ es) ((e.0, v) ∷ es) (e ∷ insert_entry cmp es k v)) ≡ true) [
      | Less ↦ (λ c. and_from (p (k, v)) (p e && list_all p es) new h)
      | Equal ↦ (λ c. let s : k ≡ e.0 = exact k e.0 c in and_from (p (e.0, v)) (list_all p es) (rw s at new) t.1)
      | Greater ↦ (λ c. and_from (p e) (list_all p (insert_entry cmp es k v)) t.0 (all_put cmp exact p es k v t.1 new))
    ]) refl

-- what is found passes
pub all_found : {K V : Type 0} (cmp : K → K → Ordering) → CmpEqualImpliesEq cmp → (p : K × V → Bool) (es : List (K × V)) (q : K) (v : V) → list_all p es ≡ true → lookup (is_at (cmp q)) es ≡ Some v → p (q, v) ≡ true
all_found cmp exact p [] q v all h = cc
all_found {K} {V} cmp exact p (e ∷ es) q v all h =
    let t = and_parts (p e) (list_all p es) all in
    (elim (is_at (cmp q) e.0) as (λ b. is_at (cmp q) e.0 ≡ b → cond b (Some e.1) (lookup (is_at (cmp q)) es) ≡ Some v → p (q, v) ≡ true) [
      | true ↦ (λ c f.
          let s : q ≡ e.0 = exact q e.0 (eq_at (cmp q e.0) c) in
          let w : e.1 ≡ v = cc in rw (s, ← w) t.0)
      | false ↦ (λ c f. all_found cmp exact p es q v t.1 f)
    ]) refl h

-- the first of two tests or the second
either : (a b c : Bool) → (a || b) ≡ true → (a ≡ true → c ≡ true) → (b ≡ true → c ≡ true) → c ≡ true
either true b c h f g = f refl
either false b c h f g = g h

-- some value still passes after a put, where the new one passes if the one before did
pub any_put : {K V : Type 0} (cmp : K → K → Ordering) (p : V → Bool) (es : List (K × V)) (k : K) (v : V) → ((w : V) → lookup (is_at (cmp k)) es ≡ Some w → p w ≡ true → p v ≡ true) → list_any (λ e. p e.1) es ≡ true → list_any (λ e. p e.1) (insert_entry cmp es k v) ≡ true
any_put cmp p [] k v kept h = cc
any_put {K} {V} cmp p (e ∷ es) k v kept h =
    let any : List (K × V) → Bool = list_any (λ e. p e.1) in
    (elim (cmp k e.0) as (λ o. cmp k e.0 ≡ o → any (match_ordering o ((k, v) ∷ e ∷ es) ((e.0, v) ∷ es) (e ∷ insert_entry cmp es k v)) ≡ true) [
      | Less ↦ (λ c. or_right (p v) (p e.1 || any es) h)
      | Equal ↦ (λ c. either (p e.1) (any es) (p v || any es) h (λ a. or_left (p v) (any es) (kept e.1 (rw c refl) a)) (or_right (p v) (any es)))
      | Greater ↦ (λ c. either (p e.1) (any es) (p e.1 || any (insert_entry cmp es k v)) h
          (or_left (p e.1) (any (insert_entry cmp es k v)))
          (λ a. or_right (p e.1) (any (insert_entry cmp es k v)) (any_put cmp p es k v (λ w f. kept w (rw c f)) a)))
    ]) refl

-- a put over a value with the same number leaves the numbers, where the keys are in order
pub numbers_same : {K V : Type 0} (cmp : K → K → Ordering) → IsTotalOrder cmp → (number : V → ℕ) (es : List (K × V)) (k : K) (v w : V) → IsStrictlySortedBy cmp (keys_of es) → lookup (is_at (cmp k)) es ≡ Some w → number v ≡ number w → map (λ e. number e.1) (insert_entry cmp es k v) ≡ map (λ e. number e.1) es
unfolding IsStrictlySortedBy
numbers_same cmp total number [] k v w sorted found same = cc
numbers_same {K} {V} cmp total number (e ∷ es) k v w sorted found same =
    let numbers : List (K × V) → List ℕ = map (λ e. number e.1) in
    (elim (cmp k e.0) as (λ o. cmp k e.0 ≡ o → numbers (match_ordering o ((k, v) ∷ e ∷ es) ((e.0, v) ∷ es) (e ∷ insert_entry cmp es k v)) ≡ numbers (e ∷ es)) [
      | Less ↦ (λ c. let none = lookup-none (is_at (cmp k)) (e ∷ es) (none_below_head total k e es sorted c) in cc)
      | Equal ↦ (λ c. let here : Some e.1 ≡ Some w = rw c at found in let one : number v ≡ number e.1 = cc in ap (λ n. n ∷ numbers es) one)
      | Greater ↦ (λ c. ap (λ ns. number e.1 ∷ ns) (numbers_same cmp total number es k v w sorted.1 (rw c at found) same))
    ]) refl

-- a number that is neither the new one nor among the others
other_number : {K V : Type 0} (cmp : K → K → Ordering) (number : V → ℕ) (n : ℕ) (es : List (K × V)) (k : K) (v : V) → (number v == n) ≡ false → list_any (λ m. m == n) (map (λ e. number e.1) es) ≡ false → list_any (λ m. m == n) (map (λ e. number e.1) (insert_entry cmp es k v)) ≡ false
other_number cmp number n [] k v new h = or_from (number v == n) false new refl
other_number {K} {V} cmp number n (e ∷ es) k v new h =
    let any : List (K × V) → Bool = λ xs. list_any (λ m. m == n) (map (λ x. number x.1) xs) in
    let t = or_parts (number e.1 == n) (any es) h in
    elim (cmp k e.0) as (λ o. any (match_ordering o ((k, v) ∷ e ∷ es) ((e.0, v) ∷ es) (e ∷ insert_entry cmp es k v)) ≡ false) [
      | Less ↦ or_from (number v == n) (any (e ∷ es)) new h
      | Equal ↦ or_from (number v == n) (any es) new t.1
      | Greater ↦ or_from (number e.1 == n) (any (insert_entry cmp es k v)) t.0 (other_number cmp number n es k v new t.1)
    ]

below_apart : (a b next : ℕ) → nat_lt a next ≡ true → next ≤ b → (a == b) ≡ false
below_apart a b next below above = grind (arith, nat_tests)

above_apart : (a b next : ℕ) → nat_lt a next ≡ true → next ≤ b → (b == a) ≡ false
above_apart a b next below above = grind (arith, nat_tests)

-- a number past all of them is not among them
new_number : {K V : Type 0} (number : V → ℕ) (next n : ℕ) (es : List (K × V)) → list_all (λ e. nat_lt (number e.1) next) es ≡ true → next ≤ n → list_any (λ m. m == n) (map (λ e. number e.1) es) ≡ false
new_number number next n [] below above = refl
new_number number next n (e ∷ es) below above =
    let b = and_parts (nat_lt (number e.1) next) (list_all (λ x. nat_lt (number x.1) next) es) below in
    or_from (number e.1 == n) (list_any (λ m. m == n) (map (λ x. number x.1) es)) (below_apart (number e.1) n next b.0 above) (new_number number next n es b.1 above)

-- a put of a value whose number is past all of them leaves the numbers distinct
pub numbers_distinct : {K V : Type 0} (cmp : K → K → Ordering) (number : V → ℕ) (next : ℕ) (es : List (K × V)) (k : K) (v : V) → list_all (λ e. nat_lt (number e.1) next) es ≡ true → next ≤ number v → are_distinct (map (λ e. number e.1) es) ≡ true → are_distinct (map (λ e. number e.1) (insert_entry cmp es k v)) ≡ true
numbers_distinct cmp number next [] k v below above distinct = refl
numbers_distinct {K} {V} cmp number next (e ∷ es) k v below above distinct =
    let numbers : List (K × V) → List ℕ = map (λ x. number x.1) in
    let any : ℕ → List (K × V) → Bool = λ n xs. list_any (λ m. m == n) (numbers xs) in
    let b = and_parts (nat_lt (number e.1) next) (list_all (λ x. nat_lt (number x.1) next) es) below in
    let d = and_parts (not (any (number e.1) es)) (are_distinct (numbers es)) distinct in
    elim (cmp k e.0) as (λ o. are_distinct (numbers (match_ordering o ((k, v) ∷ e ∷ es) ((e.0, v) ∷ es) (e ∷ insert_entry cmp es k v))) ≡ true) [
      | Less ↦ and_from (not (any (number v) (e ∷ es))) (are_distinct (numbers (e ∷ es))) (not_from_false (any (number v) (e ∷ es)) (new_number number next (number v) (e ∷ es) below above)) distinct
      | Equal ↦ and_from (not (any (number v) es)) (are_distinct (numbers es)) (not_from_false (any (number v) es) (new_number number next (number v) es b.1 above)) d.1
      | Greater ↦ and_from (not (any (number e.1) (insert_entry cmp es k v))) (are_distinct (numbers (insert_entry cmp es k v)))
          (not_from_false (any (number e.1) (insert_entry cmp es k v))
          (other_number cmp number (number e.1) es k v (above_apart (number e.1) (number v) next b.0 above) (not-true (any (number e.1) es) d.0)))
          (numbers_distinct cmp number next es k v b.1 above d.1)
    ]

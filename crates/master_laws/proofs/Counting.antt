-- Counts over lists, and over the values of entries.
use Rattle.std.proofs.Common.{◌≡◌, ℕ, ◌+◌, ◌≤◌, List, [], ◌∷◌, ◌++◌, Bool, true, false, cond, Some, refl, sym, ap, ◌∙◌, arith}
use Rattle.std.specs.Prelude.{find, count_by}
use Rattle.std.specs.List.{AllByRecursion}
use Rattle.std.specs.Map.{values_of, remove_entry}
use Rattle.std.proofs.lemmas.List.Sums.{sum_by-cons, sum_by-append}
use Rattle.session_core.proofs.RowsOfSessions.{rows_of}

abbrev pub one : Bool → ℕ
one b = cond b 1 0

pub count_cons : {X : Type 0} (p : X → Bool) (x : X) (xs : List X) → count_by p (x ∷ xs) ≡ one (p x) + count_by p xs
count_cons p x xs = sum_by-cons (λ y. cond (p y) 1 0) x xs

pub count_append : {X : Type 0} (p : X → Bool) (xs ys : List X) → count_by p (xs ++ ys) ≡ count_by p xs + count_by p ys
count_append p xs ys = sum_by-append (λ y. cond (p y) 1 0) xs ys

-- one in the middle
pub count_middle : {X : Type 0} (p : X → Bool) (front : List X) (x : X) (back : List X) → count_by p (front ++ x ∷ back) ≡ count_by p (front ++ back) + one (p x)
count_middle p front x back =
    parts (count_by p (front ++ x ∷ back)) (count_by p front) (count_by p (x ∷ back)) (one (p x)) (count_by p back) (count_by p (front ++ back)) (count_append p front (x ∷ back)) (count_cons p x back) (count_append p front back)
  where
    parts : (all f xb o b fb : ℕ) → all ≡ f + xb → xb ≡ o + b → fb ≡ f + b → all ≡ fb + o
    parts all f xb o b fb h k l = omega (arith, h, k, l)

pub count_last : {X : Type 0} (p : X → Bool) (xs : List X) (x : X) → count_by p (xs ++ x ∷ []) ≡ count_by p xs + one (p x)
count_last p xs x =
    parts (count_by p (xs ++ x ∷ [])) (count_by p xs) (count_by p (x ∷ [])) (one (p x)) (count_append p xs (x ∷ [])) (count_cons p x [])
  where
    parts : (all a b o : ℕ) → all ≡ a + b → b ≡ o + 0 → all ≡ a + o
    parts all a b o h k = omega (arith, h, k)

one_less : (a b : Bool) → (a ≡ true → b ≡ true) → one a ≤ one b
one_less true true h = omega arith
one_less true false h = let t = h refl in absurd (cc)
one_less false b h = lesser b
  where
    lesser : (c : Bool) → 0 ≤ one c
    lesser c = omega arith

-- whatever passes the one test passes the other
pub count_less : {X : Type 0} (p q : X → Bool) (xs : List X) → AllByRecursion (λ x. p x ≡ true → q x ≡ true) xs → count_by p xs ≤ count_by q xs
count_less p q [] h = omega arith
count_less p q (x ∷ xs) h =
    sums (count_by p (x ∷ xs)) (count_by q (x ∷ xs)) (one (p x)) (one (q x)) (count_by p xs) (count_by q xs) (count_cons p x xs) (count_cons q x xs) (one_less (p x) (q x) h.0) (count_less p q xs h.1)
  where
    sums : (a b c d e f : ℕ) → a ≡ c + e → b ≡ d + f → c ≤ d → e ≤ f → a ≤ b
    sums a b c d e f h k l m = omega (arith, h, k, l, m)

one_more : (a b : Bool) → a ≡ false → b ≡ true → one a + 1 ≤ one b
one_more a b h k = rw (h, k) (omega arith)

-- and one that is found passes it alone
pub count_fewer : {X : Type 0} (p q : X → Bool) (test : X → Bool) (xs : List X) (x : X) → find test xs ≡ Some x → p x ≡ false → q x ≡ true → AllByRecursion (λ y. p y ≡ true → q y ≡ true) xs → count_by p xs + 1 ≤ count_by q xs
count_fewer p q test [] x found fails passes h = absurd (cc)
count_fewer {X} p q test (y ∷ ys) x found fails passes h =
    (elim (test y) as (λ b. cond b (Some y) (find test ys) ≡ Some x → count_by p (y ∷ ys) + 1 ≤ count_by q (y ∷ ys)) [
      | true ↦ (λ k.
          let same : y ≡ x = cc in
          let here : one (p y) + 1 ≤ one (q y) = one_more (p y) (q y) (ap p same ∙ fails) (ap q same ∙ passes) in
          first (count_by p (y ∷ ys)) (count_by q (y ∷ ys)) (one (p y)) (one (q y)) (count_by p ys) (count_by q ys) (count_cons p y ys) (count_cons q y ys) here (count_less p q ys h.1))
      | false ↦ (λ k. later (count_by p (y ∷ ys)) (count_by q (y ∷ ys)) (one (p y)) (one (q y)) (count_by p ys) (count_by q ys) (count_cons p y ys) (count_cons q y ys) (one_less (p y) (q y) h.0) (count_fewer p q test ys x k fails passes h.1))
    ]) found
  where
    first : (a b c d e f : ℕ) → a ≡ c + e → b ≡ d + f → c + 1 ≤ d → e ≤ f → a + 1 ≤ b
    first a b c d e f h k l m = omega (arith, h, k, l, m)

    later : (a b c d e f : ℕ) → a ≡ c + e → b ≡ d + f → c ≤ d → e + 1 ≤ f → a + 1 ≤ b
    later a b c d e f h k l m = omega (arith, h, k, l, m)

-- without one entry
pub count_without : {K V : Type 0} (p q : K × V → Bool) (test : K → Bool) (es : List (K × V)) → AllByRecursion (λ (e : K × V). p e ≡ true → q e ≡ true) (remove_entry test es) → count_by p (remove_entry test es) ≤ count_by q es
count_without p q test [] h = omega arith
count_without {K} {V} p q test (e ∷ es) h =
    (elim (test e.0) as (λ b. AllByRecursion (λ (d : K × V). p d ≡ true → q d ≡ true) (cond b es (e ∷ remove_entry test es)) → count_by p (cond b es (e ∷ remove_entry test es)) ≤ count_by q (e ∷ es)) [
      | true ↦ (λ k. more (count_by p es) (count_by q es) (one (q e)) (count_by q (e ∷ es)) (count_less p q es k) (count_cons q e es))
      | false ↦ (λ k. sums (count_by p (e ∷ remove_entry test es)) (count_by q (e ∷ es)) (one (p e)) (one (q e)) (count_by p (remove_entry test es)) (count_by q es) (count_cons p e (remove_entry test es)) (count_cons q e es) (one_less (p e) (q e) k.0) (count_without p q test es k.1))
    ]) h
  where
    more : (a b c d : ℕ) → a ≤ b → d ≡ c + b → a ≤ d
    more a b c d h k = omega (arith, h, k)

    sums : (a b c d e f : ℕ) → a ≡ c + e → b ≡ d + f → c ≤ d → e ≤ f → a ≤ b
    sums a b c d e f h k l m = omega (arith, h, k, l, m)

-- by what is read of each value
pub count_read : {A : Type 0} (f : A → Bool) (es : List (ℕ × A)) → count_by f (values_of es) ≡ count_by (λ (e : ℕ × Bool). e.1) (rows_of f es)
count_read f [] = refl
count_read f (e ∷ es) = count_cons f e.1 (values_of es) ∙ ap (λ n. one (f e.1) + n) (count_read f es) ∙ sym (count_cons (λ (d : ℕ × Bool). d.1) (e.0, f e.1) (rows_of f es))

pub count_alike : {A : Type 0} (f : A → Bool) (new old : List (ℕ × A)) → rows_of f new ≡ rows_of f old → count_by f (values_of new) ≡ count_by f (values_of old)
count_alike f new old same = count_read f new ∙ ap (count_by (λ (e : ℕ × Bool). e.1)) same ∙ sym (count_read f old)

-- where each entry does
pub all_of : {X : Type 0} (P : X → Type 0) → ((x : X) → P x) → (xs : List X) → AllByRecursion P xs
all_of P h [] = tt
all_of P h (x ∷ xs) = (h x, all_of P h xs)

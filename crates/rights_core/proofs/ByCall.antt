-- What is read of the rights of a client that were asked back.
use Rattle.std.proofs.Common.{◌≡◌, ◌≢◌, ℕ, ◌+◌, ◌-◌, ◌<◌, ◌≤◌, Bool, true, false, cond, not, List, [], ◌∷◌, length, take, Option, Some, None, Less, Equal, Greater, arith, refl, sym, subst, ap, ◌∙◌}
use Rattle.std.specs.Prelude.{◌==◌, ◌&&◌, ◌||◌, nat_le, min, is_some, filter, fold, map}
use Rattle.std.specs.List.{list_any, AllByRecursion}
use Rattle.std.specs.List.Sorted.{IsStrictlySortedBy}
use Rattle.std.specs.Option.{option_and_then, option_map_or, option_or}
use Rattle.std.specs.Ordering.{nat_cmp}
use Rattle.std.specs.Cmp.{nat_cmp_total, unsigned_tied}
use Rattle.std.specs.Str.{bytes_eq}
use Rattle.std.specs.Map.{lookup, keys_of, values_of}
use Rattle.std.specs.BTreeMap.{is_at, insert_entry}
use Rattle.std.proofs.lemmas.Bool.Decides.{nat_tests}
use Rattle.std.proofs.lemmas.Map.Lookups.{exact_unsigned}
use Rattle.collections.proofs.Entries.{lookup_put}
use Rattle.collections.proofs.Keys.{equal_itself, number_same, same_number, at_itself, same_key, apart}
use Rattle.node_core.proofs.Orders.{sorted_insert}
use Rattle.rights_core.specs.declared.cache_rights.CacheRight.{CacheRight}
use Rattle.rights_core.specs.declared.endings.Ending.{Ending}
use Rattle.rights_core.specs.declared.endings.Ending.TheVariants as endings
use Rattle.rights_core.specs.Rights.{is_held_by, has_number, unacked_number, with_entry, is_ended_by}
use Rattle.rights_core.specs.Holds.{call_of, keeps, asked_by, AreTied, AreCalled, with_number, name_called, told}
use Rattle.rights_core.specs.Indexes.{frees}
use Rattle.rights_core.proofs.OneName.{nothing_sorted}
use Rattle.rights_core.proofs.Unacked.{entry_one, entry_sorted}
use Rattle.rights_core.proofs.Asks.{first_only, same_tables}
use Rattle.rights_core.proofs.Queued.{has_is, has_own, differs, never, behind, within, taken, first_asked}

-- ---- what an acknowledgement ends

-- its right was asked back by an invalidation that the acknowledgement covers
abbrev is_over : ℕ → List (ℕ × CacheRight) → ℕ → Bool
is_over upto es n = is_ended_by (endings.Acknowledgement upto) (call_of n es)

least : (a b : ℕ) → (min a b ≤ a) × (min a b ≤ b) × (b < a → min a b ≡ b) × (a ≤ b → min a b ≡ a)
least a b = (omega arith, omega arith, λ h. omega arith, λ h. omega arith)

first_over : (upto invalidations ended k : ℕ) (es : List (ℕ × CacheRight)) (ns : List ℕ) → k ≡ min upto invalidations - ended → AreCalled invalidations es ended ns → (n : ℕ) → list_any (λ m. n == m) (take k ns) ≡ true → is_over upto es n ≡ true
first_over upto invalidations ended k es ns is called n h =
    let found : (i : ℕ) × (asked_by i ended ns ≡ Some n) × (i ≤ ended + k) = first_asked n ended k ns h in
    let less : ended < found.0 = behind found.0 n ended ns found.1 in
    let most : found.0 ≤ ended + k = found.2 in
    let call : call_of n es ≡ Some found.0 = has_is found.0 (call_of n es) (called.tied found.0 n ∙ has_own n (asked_by found.0 ended ns) found.1) in
    let below : min upto invalidations ≤ upto = (least upto invalidations).0 in
    let le : found.0 ≤ upto = omega arith in
    let covers : nat_le found.0 upto ≡ true = grind (arith, nat_tests, le) in
    ap (is_ended_by (endings.Acknowledgement upto)) call ∙ covers

over_first : (upto invalidations ended k : ℕ) (es : List (ℕ × CacheRight)) (ns : List ℕ) → k ≡ min upto invalidations - ended → AreCalled invalidations es ended ns → (n : ℕ) → is_over upto es n ≡ true → list_any (λ m. n == m) (take k ns) ≡ true
over_first upto invalidations ended k es ns is called n h =
    (elim (call_of n es) as (λ o. call_of n es ≡ o → is_ended_by (endings.Acknowledgement upto) o ≡ true → list_any (λ m. n == m) (take k ns) ≡ true) [
      | None ↦ (λ e t. cc)
      | Some i ↦ (λ e t.
          let asked : asked_by i ended ns ≡ Some n = has_is n (asked_by i ended ns) (sym (called.tied i n) ∙ has_own i (call_of n es) e) in
          let less : ended < i = behind i n ended ns asked in
          let most : i ≤ ended + length ns = within i n ended ns asked in
          let issued : ended + length ns ≡ invalidations = called.issued in
          let le : i ≤ upto = grind (arith, nat_tests, t) in
          taken i n ended k ns asked (reach i upto invalidations ended k (omega arith) le less is))
    ]) refl h
  where
    reach : (i upto invalidations ended k : ℕ) → i ≤ invalidations → i ≤ upto → ended < i → k ≡ min upto invalidations - ended → i ≤ ended + k
    reach i upto invalidations ended k p q r e =
        (elim (nat_le upto invalidations) as (λ b. nat_le upto invalidations ≡ b → i ≤ ended + k) [
          | true ↦ (λ c. let inside : upto ≤ invalidations = grind (arith, nat_tests, c) in let same : min upto invalidations ≡ upto = (least upto invalidations).3 inside in omega arith)
          | false ↦ (λ c. let over : invalidations < upto = grind (arith, nat_tests, c) in let same : min upto invalidations ≡ invalidations = (least upto invalidations).2 over in omega arith)
        ]) refl

both_ways : (a b : Bool) → (a ≡ true → b ≡ true) → (b ≡ true → a ≡ true) → a ≡ b
both_ways true true f g = refl
both_ways true false f g = sym (f refl)
both_ways false true f g = g refl
both_ways false false f g = refl

-- ---- their numbers, in order

abbrev there_is : Option (Unit {0})
there_is = Some tt

numbers_sorted : (t : List (ℕ × Unit {0})) (ns : List ℕ) → IsStrictlySortedBy nat_cmp (keys_of t) → IsStrictlySortedBy nat_cmp (keys_of (fold with_number t ns))
numbers_sorted t [] s = s
numbers_sorted t (n ∷ ns) s = numbers_sorted (with_number t n) ns (sorted_insert nat_cmp_total t n tt s)

numbers_found : (m : ℕ) (t : List (ℕ × Unit {0})) (ns : List ℕ) → lookup (is_at (nat_cmp m)) (fold with_number t ns) ≡ cond (list_any (λ n. m == n) ns) there_is (lookup (is_at (nat_cmp m)) t)
numbers_found m t [] = refl
numbers_found m t (n ∷ ns) =
    numbers_found m (with_number t n) ns
    ∙ (ap (λ o. cond (list_any (λ z. m == z) ns) there_is o) (lookup_put nat_cmp exact_unsigned equal_itself t n tt m ∙ ap (λ b. cond b there_is (lookup (is_at (nat_cmp m)) t)) (unsigned_tied m n))
    ∙ joined (m == n) (list_any (λ z. m == z) ns) (lookup (is_at (nat_cmp m)) t))
  where
    joined : (a b : Bool) (o : Option (Unit {0})) → cond b there_is (cond a there_is o) ≡ cond (a || b) there_is o
    joined true true o = refl
    joined true false o = refl
    joined false true o = refl
    joined false false o = refl

abbrev marked : (CacheRight → Bool) → List (ℕ × CacheRight) → List (ℕ × Unit {0})
marked q es = map (λ e. (e.0, tt)) (filter (λ e. q e.1) es)

kept_above : (q : CacheRight → Bool) (k : ℕ) (es : List (ℕ × CacheRight)) → AllByRecursion (λ z. nat_cmp k z ≡ Less) (keys_of es) → AllByRecursion (λ z. nat_cmp k z ≡ Less) (keys_of (marked q es))
kept_above q k [] h = tt
kept_above q k (e ∷ es) h = elim (q e.1) as (λ b. AllByRecursion (λ z. nat_cmp k z ≡ Less) (keys_of (map (λ (f : ℕ × CacheRight). (f.0, tt)) (cond b (e ∷ filter (λ (f : ℕ × CacheRight). q f.1) es) (filter (λ (f : ℕ × CacheRight). q f.1) es))))) [ true ↦ (h.0, kept_above q k es h.1) | false ↦ kept_above q k es h.1 ]

marked_sorted : (q : CacheRight → Bool) (es : List (ℕ × CacheRight)) → IsStrictlySortedBy nat_cmp (keys_of es) → IsStrictlySortedBy nat_cmp (keys_of (marked q es))
unfolding IsStrictlySortedBy
marked_sorted q [] s = tt
marked_sorted q (e ∷ es) s = elim (q e.1) as (λ b. IsStrictlySortedBy nat_cmp (keys_of (map (λ (f : ℕ × CacheRight). (f.0, tt)) (cond b (e ∷ filter (λ (f : ℕ × CacheRight). q f.1) es) (filter (λ (f : ℕ × CacheRight). q f.1) es))))) [
  | true ↦ (kept_above q e.0 es s.0, marked_sorted q es s.1)
  | false ↦ marked_sorted q es s.1
]

-- the test of the right of a number
abbrev passes : (CacheRight → Bool) → Option CacheRight → Bool
passes q o = option_map_or q o false

marked_found : (q : CacheRight → Bool) (m : ℕ) (es : List (ℕ × CacheRight)) → IsStrictlySortedBy nat_cmp (keys_of es) → lookup (is_at (nat_cmp m)) (marked q es) ≡ cond (passes q (lookup (is_at (nat_cmp m)) es)) there_is None
marked_found q m [] s = refl
marked_found q m (e ∷ es) s =
    let first : (lookup (is_at (nat_cmp e.0)) es ≡ None) × IsStrictlySortedBy nat_cmp (keys_of es) = first_only e.0 e.1 es s in
    let tail : lookup (is_at (nat_cmp m)) (marked q es) ≡ cond (passes q (lookup (is_at (nat_cmp m)) es)) there_is None = marked_found q m es first.1 in
    (elim (is_at (nat_cmp m) e.0) as (λ b. is_at (nat_cmp m) e.0 ≡ b → lookup (is_at (nat_cmp m)) (marked q (e ∷ es)) ≡ cond (passes q (cond b (Some e.1) (lookup (is_at (nat_cmp m)) es))) there_is None) [
      | true ↦ (λ h.
          let same : m ≡ e.0 = same_key m e.0 h in
          let gone : lookup (is_at (nat_cmp m)) (marked q es) ≡ None = tail ∙ ap (λ o. cond (passes q o) there_is None) (ap (λ z. lookup (is_at (nat_cmp z)) es) same ∙ first.0) in
          here (q e.1) h gone)
      | false ↦ (λ h. there (q e.1) h tail)
    ]) refl
  where
    here : (b : Bool) → is_at (nat_cmp m) e.0 ≡ true → lookup (is_at (nat_cmp m)) (marked q es) ≡ None → lookup (is_at (nat_cmp m)) (map (λ (f : ℕ × CacheRight). (f.0, tt)) (cond b (e ∷ filter (λ (f : ℕ × CacheRight). q f.1) es) (filter (λ (f : ℕ × CacheRight). q f.1) es))) ≡ cond b there_is None
    here true h gone = ap (λ c. cond c there_is (lookup (is_at (nat_cmp m)) (marked q es))) h
    here false h gone = gone

    there : (b : Bool) → is_at (nat_cmp m) e.0 ≡ false → lookup (is_at (nat_cmp m)) (marked q es) ≡ cond (passes q (lookup (is_at (nat_cmp m)) es)) there_is None → lookup (is_at (nat_cmp m)) (map (λ (f : ℕ × CacheRight). (f.0, tt)) (cond b (e ∷ filter (λ (f : ℕ × CacheRight). q f.1) es) (filter (λ (f : ℕ × CacheRight). q f.1) es))) ≡ cond (passes q (lookup (is_at (nat_cmp m)) es)) there_is None
    there true h tail = ap (λ c. cond c there_is (lookup (is_at (nat_cmp m)) (marked q es))) h ∙ tail
    there false h tail = tail

marked_keys : (q : CacheRight → Bool) (es : List (ℕ × CacheRight)) → keys_of (marked q es) ≡ map (λ e. e.0) (filter (λ e. q e.1) es)
marked_keys q [] = refl
marked_keys q (e ∷ es) = elim (q e.1) as (λ b. keys_of (map (λ (f : ℕ × CacheRight). (f.0, tt)) (cond b (e ∷ filter (λ (f : ℕ × CacheRight). q f.1) es) (filter (λ (f : ℕ × CacheRight). q f.1) es))) ≡ map (λ (f : ℕ × CacheRight). f.0) (cond b (e ∷ filter (λ (f : ℕ × CacheRight). q f.1) es) (filter (λ (f : ℕ × CacheRight). q f.1) es))) [
  | true ↦ ap (λ l. e.0 ∷ l) (marked_keys q es)
  | false ↦ marked_keys q es
]

over_is : (upto : ℕ) (o : Option CacheRight) → is_ended_by (endings.Acknowledgement upto) (option_and_then (λ (r : CacheRight). r.invalidation) o) ≡ passes (λ r. is_ended_by (endings.Acknowledgement upto) r.invalidation) o
over_is upto None = refl
over_is upto (Some r) = refl

-- so many of the first are those that end, in the order of their numbers
pub first_numbers : (upto invalidations ended k : ℕ) (es : List (ℕ × CacheRight)) (ns : List ℕ) → k ≡ min upto invalidations - ended → AreCalled invalidations es ended ns → IsStrictlySortedBy nat_cmp (keys_of es)
    → keys_of (fold with_number [] (take k ns)) ≡ map (λ e. e.0) (filter (λ e. is_ended_by (endings.Acknowledgement upto) e.1.invalidation) es)
first_numbers upto invalidations ended k es ns is called sorted =
    let q : CacheRight → Bool = λ r. is_ended_by (endings.Acknowledgement upto) r.invalidation in
    let same : fold with_number [] (take k ns) ≡ marked q es = same_tables (fold with_number [] (take k ns)) (marked q es) (numbers_sorted [] (take k ns) nothing_sorted) (marked_sorted q es sorted) (λ m.
    numbers_found m [] (take k ns)
    ∙ (ap (λ b. cond b there_is None) (both_ways (list_any (λ n. m == n) (take k ns)) (is_over upto es m) (first_over upto invalidations ended k es ns is called m) (over_first upto invalidations ended k es ns is called m) ∙ over_is upto (lookup (is_at (nat_cmp m)) es))
    ∙ sym (marked_found q m es sorted))) in
    ap keys_of same ∙ marked_keys q es

-- ---- their names

some_number : (q : ℕ → Bool) (ns : List ℕ) → list_any q ns ≡ true → (n : ℕ) × (list_any (λ m. n == m) ns ≡ true) × (q n ≡ true)
some_number q [] h = cc
some_number q (n ∷ ns) h =
    (elim (q n) as (λ b. q n ≡ b → (b || list_any q ns) ≡ true → (m : ℕ) × (list_any (λ z. m == z) (n ∷ ns) ≡ true) × (q m ≡ true)) [
      | true ↦ (λ e t. (n, ap (λ b. b || list_any (λ z. n == z) ns) (same_number n), e))
      | false ↦ (λ e t.
          let tail : (m : ℕ) × (list_any (λ z. m == z) ns ≡ true) × (q m ≡ true) = some_number q ns t in
          (tail.0, either (tail.0 == n) (list_any (λ z. tail.0 == z) ns) tail.1, tail.2))
    ]) refl h
  where
    either : (a b : Bool) → b ≡ true → (a || b) ≡ true
    either true b e = refl
    either false b e = e

number_some : (q : ℕ → Bool) (n : ℕ) (ns : List ℕ) → list_any (λ m. n == m) ns ≡ true → q n ≡ true → list_any q ns ≡ true
number_some q n [] h t = cc
number_some q n (m ∷ ms) h t =
    (elim (n == m) as (λ b. (n == m) ≡ b → (b || list_any (λ z. n == z) ms) ≡ true → (q m || list_any q ms) ≡ true) [
      | true ↦ (λ e k. ap (λ b. b || list_any q ms) (sym (ap q (number_same n m e)) ∙ t))
      | false ↦ (λ e k. either (q m) (list_any q ms) (number_some q n ms k t))
    ]) refl h
  where
    either : (a b : Bool) → b ≡ true → (a || b) ≡ true
    either true b e = refl
    either false b e = e

some_entry : (q : CacheRight → Bool) (es : List (ℕ × CacheRight)) → IsStrictlySortedBy nat_cmp (keys_of es) → list_any (λ e. q e.1) es ≡ true → (n : ℕ) × (r : CacheRight) × (lookup (is_at (nat_cmp n)) es ≡ Some r) × (q r ≡ true)
some_entry q [] sorted h = cc
some_entry q (e ∷ es) sorted h =
    let first : (lookup (is_at (nat_cmp e.0)) es ≡ None) × IsStrictlySortedBy nat_cmp (keys_of es) = first_only e.0 e.1 es sorted in
    (elim (q e.1) as (λ b. q e.1 ≡ b → (b || list_any (λ f. q f.1) es) ≡ true → (n : ℕ) × (r : CacheRight) × (lookup (is_at (nat_cmp n)) (e ∷ es) ≡ Some r) × (q r ≡ true)) [
      | true ↦ (λ t k. (e.0, e.1, ap (λ b. cond b (Some e.1) (lookup (is_at (nat_cmp e.0)) es)) (at_itself e.0), t))
      | false ↦ (λ t k.
          let tail : (n : ℕ) × (r : CacheRight) × (lookup (is_at (nat_cmp n)) es ≡ Some r) × (q r ≡ true) = some_entry q es first.1 k in
          (tail.0, tail.1, past tail.0 tail.1 (is_at (nat_cmp tail.0) e.0) refl first.0 tail.2, tail.3))
    ]) refl h
  where
    past : (n : ℕ) (r : CacheRight) (b : Bool) → is_at (nat_cmp n) e.0 ≡ b → lookup (is_at (nat_cmp e.0)) es ≡ None → lookup (is_at (nat_cmp n)) es ≡ Some r → cond (is_at (nat_cmp n) e.0) (Some e.1) (lookup (is_at (nat_cmp n)) es) ≡ Some r
    past n r true h gone found =
        let same : e.0 ≡ n = sym (same_key n e.0 h) in
        let none : lookup (is_at (nat_cmp n)) es ≡ None = ap (λ z. lookup (is_at (nat_cmp z)) es) (sym same) ∙ gone in
        cc
    past n r false h gone found = ap (λ b. cond b (Some e.1) (lookup (is_at (nat_cmp n)) es)) h ∙ found

entry_some : (q : CacheRight → Bool) (n : ℕ) (r : CacheRight) (es : List (ℕ × CacheRight)) → lookup (is_at (nat_cmp n)) es ≡ Some r → q r ≡ true → list_any (λ e. q e.1) es ≡ true
entry_some q n r [] found t = cc
entry_some q n r (e ∷ es) found t =
    (elim (is_at (nat_cmp n) e.0) as (λ b. cond b (Some e.1) (lookup (is_at (nat_cmp n)) es) ≡ Some r → (q e.1 || list_any (λ f. q f.1) es) ≡ true) [
      | true ↦ (λ k. let same : e.1 ≡ r = cc in ap (λ b. b || list_any (λ f. q f.1) es) (ap q same ∙ t))
      | false ↦ (λ k. either (q e.1) (list_any (λ f. q f.1) es) (entry_some q n r es k t))
    ]) found
  where
    either : (a b : Bool) → b ≡ true → (a || b) ≡ true
    either true b e = refl
    either false b e = e

both_true : (a b : Bool) → a ≡ true → b ≡ true → (a && b) ≡ true
both_true true b p q = q
both_true false b p q = cc

parts : (a b : Bool) → (a && b) ≡ true → (a ≡ true) × (b ≡ true)
parts true b h = (refl, h)
parts false b h = cc

-- a name is kept by one of the first where a right that ends keeps it
pub first_names : (upto invalidations ended k : ℕ) (x : List ℕ) (es : List (ℕ × CacheRight)) (ns : List ℕ) → k ≡ min upto invalidations - ended → AreCalled invalidations es ended ns → IsStrictlySortedBy nat_cmp (keys_of es)
    → list_any (keeps x es) (take k ns) ≡ list_any (λ e. frees (endings.Acknowledgement upto) x e.1) es
first_names upto invalidations ended k x es ns is called sorted = both_ways (list_any (keeps x es) (take k ns)) (list_any (λ e. frees (endings.Acknowledgement upto) x e.1) es) there back
  where
    there : list_any (keeps x es) (take k ns) ≡ true → list_any (λ e. frees (endings.Acknowledgement upto) x e.1) es ≡ true
    there h =
        let some : (n : ℕ) × (list_any (λ m. n == m) (take k ns) ≡ true) × (keeps x es n ≡ true) = some_number (keeps x es) (take k ns) h in
        at some.0 (lookup (is_at (nat_cmp some.0)) es) refl (first_over upto invalidations ended k es ns is called some.0 some.1) some.2
      where
        at : (n : ℕ) (o : Option CacheRight) → lookup (is_at (nat_cmp n)) es ≡ o → is_over upto es n ≡ true → keeps x es n ≡ true → list_any (λ e. frees (endings.Acknowledgement upto) x e.1) es ≡ true
        at n None e t u = let none : keeps x es n ≡ false = ap (λ o. option_map_or (λ (r : CacheRight). bytes_eq x r.name) o false) e in cc
        at n (Some r) e t u =
            let over : is_ended_by (endings.Acknowledgement upto) r.invalidation ≡ true = sym (ap (λ o. is_ended_by (endings.Acknowledgement upto) (option_and_then (λ (s : CacheRight). s.invalidation) o)) e) ∙ t in
            let named : bytes_eq x r.name ≡ true = sym (ap (λ o. option_map_or (λ (s : CacheRight). bytes_eq x s.name) o false) e) ∙ u in
            entry_some (frees (endings.Acknowledgement upto) x) n r es e (both_true (is_ended_by (endings.Acknowledgement upto) r.invalidation) (bytes_eq x r.name) over named)

    back : list_any (λ e. frees (endings.Acknowledgement upto) x e.1) es ≡ true → list_any (keeps x es) (take k ns) ≡ true
    back h =
        let some : (n : ℕ) × (r : CacheRight) × (lookup (is_at (nat_cmp n)) es ≡ Some r) × (frees (endings.Acknowledgement upto) x r ≡ true) = some_entry (frees (endings.Acknowledgement upto) x) es sorted h in
        let p : (is_ended_by (endings.Acknowledgement upto) some.1.invalidation ≡ true) × (bytes_eq x some.1.name ≡ true) = parts (is_ended_by (endings.Acknowledgement upto) some.1.invalidation) (bytes_eq x some.1.name) some.3 in
        let over : is_over upto es some.0 ≡ true = ap (λ o. is_ended_by (endings.Acknowledgement upto) (option_and_then (λ (s : CacheRight). s.invalidation) o)) some.2 ∙ p.0 in
        let named : keeps x es some.0 ≡ true = ap (λ o. option_map_or (λ (s : CacheRight). bytes_eq x s.name) o false) some.2 ∙ p.1 in
        number_some (keeps x es) some.0 (take k ns) (over_first upto invalidations ended k es ns is called some.0 over) named

-- ---- what is still to be acknowledged

abbrev entry_named : ℕ → ℕ → Option CacheRight → Option (List ℕ)
entry_named c i None = None
entry_named c i (Some r) = cond (is_held_by c r && has_number i r.invalidation) (Some r.name) None

abbrev found_at : List (ℕ × CacheRight) → Option ℕ → Option CacheRight
found_at es None = None
found_at es (Some n) = lookup (is_at (nat_cmp n)) es

told_sorted : (c : ℕ) (es : List (ℕ × CacheRight)) (t : List (ℕ × List ℕ)) (ns : List ℕ) → IsStrictlySortedBy nat_cmp (keys_of t) → IsStrictlySortedBy nat_cmp (keys_of (fold (told c es) t ns))
told_sorted c es t [] s = s
told_sorted c es t (n ∷ ns) s = told_sorted c es (told c es t n) ns (step (lookup (is_at (nat_cmp n)) es))
  where
    step : (o : Option CacheRight) → IsStrictlySortedBy nat_cmp (keys_of (option_map_or (λ r. with_entry t (unacked_number c r) r.name) o t))
    step None = s
    step (Some r) = entry_sorted t (unacked_number c r) r.name s

abbrev last_named : ℕ → ℕ → List (ℕ × CacheRight) → List ℕ → Option (List ℕ)
last_named c i es [] = None
last_named c i es (n ∷ ns) = option_or (last_named c i es ns) (entry_named c i (lookup (is_at (nat_cmp n)) es))

one_told : (c i : ℕ) (t : List (ℕ × List ℕ)) (o : Option CacheRight) → lookup (is_at (nat_cmp i)) (option_map_or (λ r. with_entry t (unacked_number c r) r.name) o t) ≡ option_or (entry_named c i o) (lookup (is_at (nat_cmp i)) t)
one_told c i t None = refl
one_told c i t (Some r) = entry_one i t (is_held_by c r) r.invalidation r.name ∙ either (is_held_by c r && has_number i r.invalidation) (Some r.name) (lookup (is_at (nat_cmp i)) t) refl
  where
    either : (b : Bool) (o p : Option (List ℕ)) → is_some o ≡ true → cond b o p ≡ option_or (cond b o None) p
    either true None p s = cc
    either true (Some x) p s = refl
    either false o p s = refl

told_found : (c i : ℕ) (es : List (ℕ × CacheRight)) (t : List (ℕ × List ℕ)) (ns : List ℕ) → lookup (is_at (nat_cmp i)) (fold (told c es) t ns) ≡ option_or (last_named c i es ns) (lookup (is_at (nat_cmp i)) t)
told_found c i es t [] = refl
told_found c i es t (n ∷ ns) =
    told_found c i es (told c es t n) ns
    ∙ (ap (option_or (last_named c i es ns)) (one_told c i t (lookup (is_at (nat_cmp n)) es))
    ∙ grouped (last_named c i es ns) (entry_named c i (lookup (is_at (nat_cmp n)) es)) (lookup (is_at (nat_cmp i)) t))
  where
    grouped : (o p q : Option (List ℕ)) → option_or o (option_or p q) ≡ option_or (option_or o p) q
    grouped None p q = refl
    grouped (Some x) p q = refl

entry_none : (c i : ℕ) (o : Option CacheRight) → has_number i (option_and_then (λ (r : CacheRight). r.invalidation) o) ≡ false → entry_named c i o ≡ None
entry_none c i None h = refl
entry_none c i (Some r) h = ap (λ b. cond (is_held_by c r && b) (Some r.name) None) h ∙ none (is_held_by c r)
  where
    none : (b : Bool) → cond (b && false) (Some r.name) None ≡ None
    none true = refl
    none false = refl

-- of the right that an invalidation asked back
each_named : (c i ended : ℕ) (es : List (ℕ × CacheRight)) (ns : List ℕ) → AreTied es ended ns → (n : ℕ) → entry_named c i (lookup (is_at (nat_cmp n)) es) ≡ cond (has_number n (asked_by i ended ns)) (entry_named c i (found_at es (asked_by i ended ns))) None
each_named c i ended es ns tied n = by (asked_by i ended ns) (tied i n)
  where
    by : (o : Option ℕ) → has_number i (call_of n es) ≡ has_number n o → entry_named c i (lookup (is_at (nat_cmp n)) es) ≡ cond (has_number n o) (entry_named c i (found_at es o)) None
    by None t = entry_none c i (lookup (is_at (nat_cmp n)) es) t
    by (Some m) t =
        (elim (n == m) as (λ b. (n == m) ≡ b → entry_named c i (lookup (is_at (nat_cmp n)) es) ≡ cond b (entry_named c i (lookup (is_at (nat_cmp m)) es)) None) [
          | true ↦ (λ h. ap (λ z. entry_named c i (lookup (is_at (nat_cmp z)) es)) (number_same n m h))
          | false ↦ (λ h. entry_none c i (lookup (is_at (nat_cmp n)) es) (t ∙ h))
        ]) refl

last_is : (c i : ℕ) (es : List (ℕ × CacheRight)) (q : ℕ → Bool) (v : Option (List ℕ)) → ((n : ℕ) → entry_named c i (lookup (is_at (nat_cmp n)) es) ≡ cond (q n) v None) → (ns : List ℕ) → last_named c i es ns ≡ cond (list_any q ns) v None
last_is c i es q v each [] = refl
last_is c i es q v each (n ∷ ns) =
    ap (λ o. option_or o (entry_named c i (lookup (is_at (nat_cmp n)) es))) (last_is c i es q v each ns)
    ∙ (ap (option_or (cond (list_any q ns) v None)) (each n) ∙ joined (list_any q ns) (q n) v)
  where
    joined : (a b : Bool) (v : Option (List ℕ)) → option_or (cond a v None) (cond b v None) ≡ cond (b || a) v None
    joined true true None = refl
    joined true true (Some x) = refl
    joined true false None = refl
    joined true false (Some x) = refl
    joined false true v = refl
    joined false false v = refl

star_there : (i ended m : ℕ) (ns : List ℕ) → asked_by i ended ns ≡ Some m → list_any (λ n. n == m) ns ≡ true
star_there i ended m [] h = cc
star_there i ended m (n ∷ ns) h =
    (elim (i == ended + 1) as (λ b. cond b (Some n) (asked_by i (ended + 1) ns) ≡ Some m → ((n == m) || list_any (λ z. z == m) ns) ≡ true) [
      | true ↦ (λ e. let same : n ≡ m = cc in let self : (n == m) ≡ true = ap (λ z. z == m) same ∙ same_number m in ap (λ b. b || list_any (λ z. z == m) ns) self)
      | false ↦ (λ e. either (n == m) (list_any (λ z. z == m) ns) (star_there i (ended + 1) m ns e))
    ]) h
  where
    either : (a b : Bool) → b ≡ true → (a || b) ≡ true
    either true b e = refl
    either false b e = e

all_named : (c i ended : ℕ) (es : List (ℕ × CacheRight)) (ns : List ℕ) → AreTied es ended ns → last_named c i es ns ≡ entry_named c i (found_at es (asked_by i ended ns))
all_named c i ended es ns tied =
    last_is c i es (λ n. has_number n (asked_by i ended ns)) (entry_named c i (found_at es (asked_by i ended ns))) (each_named c i ended es ns tied) ns
    ∙ by (asked_by i ended ns) refl
  where
    by : (o : Option ℕ) → asked_by i ended ns ≡ o → cond (list_any (λ n. has_number n o) ns) (entry_named c i (found_at es o)) None ≡ entry_named c i (found_at es o)
    by None e = same (list_any (λ n. has_number n None) ns)
      where
        same : (b : Bool) → ◌≡◌ {A = Option (List ℕ)} (cond b None None) None
        same true = refl
        same false = refl
    by (Some m) e = ap (λ b. cond b (entry_named c i (lookup (is_at (nat_cmp m)) es)) None) (star_there i ended m ns e)

-- where no right of these was asked back by it
none_called : (c i : ℕ) (es : List (ℕ × CacheRight)) → IsStrictlySortedBy nat_cmp (keys_of es) → ((n : ℕ) → has_number i (call_of n es) ≡ false) → name_called c i (values_of es) ≡ None
none_called c i [] sorted none = refl
none_called c i (e ∷ es) sorted none =
    let first : (lookup (is_at (nat_cmp e.0)) es ≡ None) × IsStrictlySortedBy nat_cmp (keys_of es) = first_only e.0 e.1 es sorted in
    let here : has_number i e.1.invalidation ≡ false = sym (ap (λ b. has_number i (option_and_then (λ (r : CacheRight). r.invalidation) (cond b (Some e.1) (lookup (is_at (nat_cmp e.0)) es)))) (at_itself e.0)) ∙ none e.0 in
    ap (λ b. cond (is_held_by c e.1 && b) (Some e.1.name) (name_called c i (values_of es))) here
    ∙ (skipped (is_held_by c e.1) (Some e.1.name) (name_called c i (values_of es)) ∙ none_called c i es first.1 (λ n. tail i n e es first.0 (none n)))
  where
    skipped : (b : Bool) (x y : Option (List ℕ)) → cond (b && false) x y ≡ y
    skipped true x y = refl
    skipped false x y = refl

    tail : (i n : ℕ) (e : ℕ × CacheRight) (es : List (ℕ × CacheRight)) → lookup (is_at (nat_cmp e.0)) es ≡ None → has_number i (call_of n (e ∷ es)) ≡ false → has_number i (call_of n es) ≡ false
    tail i n e es gone h =
        (elim (is_at (nat_cmp n) e.0) as (λ b. is_at (nat_cmp n) e.0 ≡ b → has_number i (option_and_then (λ (r : CacheRight). r.invalidation) (cond b (Some e.1) (lookup (is_at (nat_cmp n)) es))) ≡ false → has_number i (call_of n es) ≡ false) [
          | true ↦ (λ k t. ap (λ o. has_number i (option_and_then (λ (r : CacheRight). r.invalidation) o)) (ap (λ z. lookup (is_at (nat_cmp z)) es) (same_key n e.0 k) ∙ gone))
          | false ↦ (λ k t. t)
        ]) refl h

-- where it asked back the right of one number alone
one_called : (c i m : ℕ) (es : List (ℕ × CacheRight)) → IsStrictlySortedBy nat_cmp (keys_of es) → ((n : ℕ) → has_number i (call_of n es) ≡ true → n ≡ m) → name_called c i (values_of es) ≡ entry_named c i (lookup (is_at (nat_cmp m)) es)
one_called c i m [] sorted alone = refl
one_called c i m (e ∷ es) sorted alone =
    let first : (lookup (is_at (nat_cmp e.0)) es ≡ None) × IsStrictlySortedBy nat_cmp (keys_of es) = first_only e.0 e.1 es sorted in
    (elim (is_at (nat_cmp m) e.0) as (λ b. is_at (nat_cmp m) e.0 ≡ b → name_called c i (values_of (e ∷ es)) ≡ entry_named c i (cond b (Some e.1) (lookup (is_at (nat_cmp m)) es))) [
      | true ↦ (λ h.
          let same : m ≡ e.0 = same_key m e.0 h in
          let rest : name_called c i (values_of es) ≡ None = none_called c i es first.1 (λ n. never (has_number i (call_of n es)) (λ t. elsewhere n same first.0 t)) in
          ap (λ o. cond (is_held_by c e.1 && has_number i e.1.invalidation) (Some e.1.name) o) rest)
      | false ↦ (λ h.
          let here : has_number i e.1.invalidation ≡ false = never (has_number i e.1.invalidation) (λ t. other h t) in
          ap (λ b. cond (is_held_by c e.1 && b) (Some e.1.name) (name_called c i (values_of es))) here
          ∙ (skipped (is_held_by c e.1) (Some e.1.name) (name_called c i (values_of es)) ∙ one_called c i m es first.1 (λ n t. alone n (later n first.0 t))))
    ]) refl
  where
    skipped : (b : Bool) (x y : Option (List ℕ)) → cond (b && false) x y ≡ y
    skipped true x y = refl
    skipped false x y = refl

    -- what is found behind the first is no other's
    later : (n : ℕ) → lookup (is_at (nat_cmp e.0)) es ≡ None → has_number i (call_of n es) ≡ true → has_number i (call_of n (e ∷ es)) ≡ true
    later n gone t =
        (elim (is_at (nat_cmp n) e.0) as (λ b. is_at (nat_cmp n) e.0 ≡ b → has_number i (option_and_then (λ (r : CacheRight). r.invalidation) (cond b (Some e.1) (lookup (is_at (nat_cmp n)) es))) ≡ true) [
          | true ↦ (λ k.
              let none : has_number i (call_of n es) ≡ false = ap (λ o. has_number i (option_and_then (λ (r : CacheRight). r.invalidation) o)) (ap (λ z. lookup (is_at (nat_cmp z)) es) (same_key n e.0 k) ∙ gone) in
              cc)
          | false ↦ (λ k. t)
        ]) refl

    elsewhere : (n : ℕ) → m ≡ e.0 → lookup (is_at (nat_cmp e.0)) es ≡ None → has_number i (call_of n es) ≡ true → ⊥
    elsewhere n same gone t =
        let is : n ≡ e.0 = alone n (later n gone t) ∙ same in
        let none : has_number i (call_of n es) ≡ false = ap (λ o. has_number i (option_and_then (λ (r : CacheRight). r.invalidation) o)) (ap (λ z. lookup (is_at (nat_cmp z)) es) is ∙ gone) in
        cc

    other : is_at (nat_cmp m) e.0 ≡ false → has_number i e.1.invalidation ≡ true → ⊥
    other h t =
        let found : has_number i (call_of e.0 (e ∷ es)) ≡ true = ap (λ b. has_number i (option_and_then (λ (r : CacheRight). r.invalidation) (cond b (Some e.1) (lookup (is_at (nat_cmp e.0)) es)))) (at_itself e.0) ∙ t in
        let is : e.0 ≡ m = alone e.0 found in
        let at : is_at (nat_cmp m) e.0 ≡ true = ap (λ z. is_at (nat_cmp m) z) is ∙ at_itself m in
        cc

name_is : (c i ended : ℕ) (es : List (ℕ × CacheRight)) (ns : List ℕ) → AreTied es ended ns → IsStrictlySortedBy nat_cmp (keys_of es) → name_called c i (values_of es) ≡ entry_named c i (found_at es (asked_by i ended ns))
name_is c i ended es ns tied sorted = by (asked_by i ended ns) (tied i)
  where
    by : (o : Option ℕ) → ((n : ℕ) → has_number i (call_of n es) ≡ has_number n o) → name_called c i (values_of es) ≡ entry_named c i (found_at es o)
    by None t = none_called c i es sorted t
    by (Some m) t = one_called c i m es sorted (λ n h. number_same n m (sym (t n) ∙ h))

pub called_names : (c invalidations ended : ℕ) (es : List (ℕ × CacheRight)) (ns : List ℕ) (table : List (ℕ × List ℕ)) → table ≡ fold (told c es) [] ns → AreCalled invalidations es ended ns → IsStrictlySortedBy nat_cmp (keys_of es)
    → IsStrictlySortedBy nat_cmp (keys_of table) × ((i : ℕ) → lookup (is_at (nat_cmp i)) table ≡ name_called c i (values_of es))
called_names c invalidations ended es ns table is called sorted =
    let P : List (ℕ × List ℕ) → Type 0 = λ t. IsStrictlySortedBy nat_cmp (keys_of t) × ((i : ℕ) → lookup (is_at (nat_cmp i)) t ≡ name_called c i (values_of es)) in
    subst P (sym is)
    (told_sorted c es [] ns nothing_sorted, λ i. told_found c i es [] ns ∙ (plainly (last_named c i es ns) ∙ (all_named c i ended es ns called.tied ∙ sym (name_is c i ended es ns called.tied sorted))))
  where
    plainly : (o : Option (List ℕ)) → option_or o None ≡ o
    plainly None = refl
    plainly (Some x) = refl

-- The rights of a client that were asked back, in the order of their invalidations.
use Rattle.std.proofs.Common.{◌≡◌, ◌≢◌, ℕ, zero, suc, ◌+◌, ◌-◌, ◌<◌, ◌≤◌, Bool, true, false, cond, not, List, [], ◌∷◌, ◌++◌, length, take, drop, Option, Some, None, arith, refl, sym, subst, ap, ◌∙◌}
use Rattle.std.specs.Prelude.{◌==◌, ◌&&◌, ◌||◌, nat_le, min, is_some, filter, fold, map}
use Rattle.std.specs.List.{list_any, AllByRecursion}
use Rattle.std.specs.List.Sorted.{IsStrictlySortedBy}
use Rattle.std.specs.Option.{option_and_then, option_map, option_or, unwrap_or}
use Rattle.std.specs.Ordering.{nat_cmp}
use Rattle.std.specs.Cmp.{nat_cmp_total, unsigned_tied}
use Rattle.std.specs.Str.{bytes_eq}
use Rattle.std.specs.Map.{lookup, set_value, remove_entry, keys_of, values_of}
use Rattle.std.specs.BTreeMap.{is_at, insert_entry}
use Rattle.std.proofs.lemmas.Bool.Decides.{nat_tests}
use Rattle.std.proofs.lemmas.List.Sums.{sum_by-cons}
use Rattle.std.proofs.lemmas.Map.Entries.{sum_by-remove_entry}
use Rattle.collections.proofs.Keys.{number_same, same_number, at_itself, same_key, apart}
use Rattle.collections.proofs.OneKey.{lookup_set, lookup_set_apart, lookup_put, lookup_put_apart, lookup_removed, lookup_removed_apart}
use Rattle.node_core.proofs.Orders.{sorted_insert, sorted_remove}
use Rattle.rights_core.specs.declared.cache_rights.CacheRight.{CacheRight}
use Rattle.rights_core.specs.declared.endings.Ending.TheVariants as endings
use Rattle.rights_core.specs.Rights.{is_held_by, has_number, is_ended_by}
use Rattle.rights_core.specs.Holds.{count_waiting, call_of, keeps, asked_by, AreTied, AreCalled, with_number, without_all}
use Rattle.rights_core.proofs.Asks.{first_only}

-- ---- numbers

pub has_is : (n : ℕ) (i : Option ℕ) → has_number n i ≡ true → i ≡ Some n
has_is n None h = cc
has_is n (Some m) h = ap Some (sym (number_same n m h))

pub has_own : (n : ℕ) (i : Option ℕ) → i ≡ Some n → has_number n i ≡ true
has_own n i h = ap (has_number n) h ∙ same_number n

pub differs : (a b : ℕ) → (a == b) ≡ false → a ≢ b
differs a b h = λ s. let self : (b == b) ≡ true = same_number b in let none : (b == b) ≡ false = ap (λ z. z == b) (sym s) ∙ h in cc

-- where a test fails whenever it holds, it fails
pub never : (b : Bool) → (b ≡ true → ⊥) → b ≡ false
never true f = absurd (f refl)
never false f = refl

-- ---- which right an invalidation asked back

pub behind : (i n ended : ℕ) (ns : List ℕ) → asked_by i ended ns ≡ Some n → ended < i
behind i n ended [] h = cc
behind i n ended (m ∷ ms) h =
    (elim (i == ended + 1) as (λ b. (i == ended + 1) ≡ b → cond b (Some m) (asked_by i (ended + 1) ms) ≡ Some n → ended < i) [
      | true ↦ (λ e k. let same : i ≡ ended + 1 = number_same i (ended + 1) e in omega arith)
      | false ↦ (λ e k. let less : ended + 1 < i = behind i n (ended + 1) ms k in omega arith)
    ]) refl h

pub within : (i n ended : ℕ) (ns : List ℕ) → asked_by i ended ns ≡ Some n → i ≤ ended + length ns
within i n ended [] h = cc
within i n ended (m ∷ ms) h =
    (elim (i == ended + 1) as (λ b. (i == ended + 1) ≡ b → cond b (Some m) (asked_by i (ended + 1) ms) ≡ Some n → i ≤ ended + length (m ∷ ms)) [
      | true ↦ (λ e k. let same : i ≡ ended + 1 = number_same i (ended + 1) e in omega arith)
      | false ↦ (λ e k. let most : i ≤ ended + 1 + length ms = within i n (ended + 1) ms k in omega arith)
    ]) refl h

-- one more at the end
pub asked_last : (i n ended : ℕ) (ns : List ℕ) → asked_by i ended (ns ++ n ∷ []) ≡ option_or (asked_by i ended ns) (cond (i == ended + length ns + 1) (Some n) None)
asked_last i n ended [] = let e : ended + 0 + 1 ≡ ended + 1 = omega arith in ap (λ k. cond (i == k) (Some n) None) (sym e)
asked_last i n ended (m ∷ ms) =
    let e : ended + 1 + length ms + 1 ≡ ended + length (m ∷ ms) + 1 = omega arith in
    let tail : asked_by i (ended + 1) (ms ++ n ∷ []) ≡ option_or (asked_by i (ended + 1) ms) (cond (i == ended + length (m ∷ ms) + 1) (Some n) None) =
    asked_last i n (ended + 1) ms ∙ ap (λ k. option_or (asked_by i (ended + 1) ms) (cond (i == k) (Some n) None)) e in
    head (i == ended + 1) m (asked_by i (ended + 1) (ms ++ n ∷ [])) (asked_by i (ended + 1) ms) (cond (i == ended + length (m ∷ ms) + 1) (Some n) None) tail
  where
    head : (b : Bool) (m : ℕ) (t f l : Option ℕ) → t ≡ option_or f l → cond b (Some m) t ≡ option_or (cond b (Some m) f) l
    head true m t f l e = refl
    head false m t f l e = e

-- the rights of the first invalidations are the first
pub taken : (i n ended k : ℕ) (ns : List ℕ) → asked_by i ended ns ≡ Some n → i ≤ ended + k → list_any (λ m. n == m) (take k ns) ≡ true
taken i n ended k [] h le = cc
taken i n ended zero (m ∷ ms) h le = absurd (let less : ended < i = behind i n ended (m ∷ ms) h in omega arith)
taken i n ended (suc k) (m ∷ ms) h le =
    (elim (i == ended + 1) as (λ b. cond b (Some m) (asked_by i (ended + 1) ms) ≡ Some n → ((n == m) || list_any (λ z. n == z) (take k ms)) ≡ true) [
      | true ↦ (λ e. let same : m ≡ n = cc in let self : (n == m) ≡ true = ap (λ z. n == z) same ∙ same_number n in ap (λ b. b || list_any (λ z. n == z) (take k ms)) self)
      | false ↦ (λ e. either (n == m) (list_any (λ z. n == z) (take k ms)) (taken i n (ended + 1) k ms e (omega arith)))
    ]) h
  where
    either : (a b : Bool) → b ≡ true → (a || b) ≡ true
    either true b e = refl
    either false b e = e

pub first_asked : (n ended k : ℕ) (ns : List ℕ) → list_any (λ m. n == m) (take k ns) ≡ true → (i : ℕ) × (asked_by i ended ns ≡ Some n) × (i ≤ ended + k)
first_asked n ended zero ns h = cc
first_asked n ended (suc k) [] h = cc
first_asked n ended (suc k) (m ∷ ms) h =
    (elim (n == m) as (λ b. (n == m) ≡ b → (b || list_any (λ z. n == z) (take k ms)) ≡ true → (i : ℕ) × (asked_by i ended (m ∷ ms) ≡ Some n) × (i ≤ ended + suc k)) [
      | true ↦ (λ e t.
          let same : n ≡ m = number_same n m e in
          (ended + 1, ap (λ b. cond b (Some m) (asked_by (ended + 1) (ended + 1) ms)) (same_number (ended + 1)) ∙ ap Some (sym same), omega arith))
      | false ↦ (λ e t.
          let later : (i : ℕ) × (asked_by i (ended + 1) ms ≡ Some n) × (i ≤ ended + 1 + k) = first_asked n (ended + 1) k ms t in
          let less : ended + 1 < later.0 = behind later.0 n (ended + 1) ms later.1 in
          let away : (later.0 == ended + 1) ≡ false = never (later.0 == ended + 1) (λ s. let same : later.0 ≡ ended + 1 = number_same later.0 (ended + 1) s in omega arith) in
          let most : later.0 ≤ ended + 1 + k = later.2 in
          (later.0, ap (λ b. cond b (Some m) (asked_by later.0 (ended + 1) ms)) away ∙ later.1, omega arith))
    ]) refl h

-- ---- a right more

pub call_put : (n m : ℕ) (es : List (ℕ × CacheRight)) (r : CacheRight) → lookup (is_at (nat_cmp n)) es ≡ None → r.invalidation ≡ None → call_of m (insert_entry nat_cmp es n r) ≡ call_of m es
call_put n m es r absent fresh =
    (elim (m == n) as (λ b. (m == n) ≡ b → call_of m (insert_entry nat_cmp es n r) ≡ call_of m es) [
      | true ↦ (λ h.
          let same : m ≡ n = number_same m n h in
          rw same (ap (option_and_then (λ (s : CacheRight). s.invalidation)) (lookup_put n es r) ∙ (fresh ∙ ap (option_and_then (λ (s : CacheRight). s.invalidation)) (sym absent))))
      | false ↦ (λ h. ap (option_and_then (λ (s : CacheRight). s.invalidation)) (lookup_put_apart n m (differs m n h) es r))
    ]) refl

pub tied_put : (n : ℕ) (es : List (ℕ × CacheRight)) (r : CacheRight) (ended : ℕ) (ns : List ℕ) → lookup (is_at (nat_cmp n)) es ≡ None → r.invalidation ≡ None → AreTied es ended ns → AreTied (insert_entry nat_cmp es n r) ended ns
tied_put n es r ended ns absent fresh tied = λ i m. ap (has_number i) (call_put n m es r absent fresh) ∙ tied i m

-- ---- a right that is asked back

call_set : (n m i : ℕ) (es : List (ℕ × CacheRight)) (old new : CacheRight) → lookup (is_at (nat_cmp n)) es ≡ Some old → new.invalidation ≡ Some i → call_of m (set_value (is_at (nat_cmp n)) es new) ≡ cond (m == n) (Some i) (call_of m es)
call_set n m i es old new found is =
    (elim (m == n) as (λ b. (m == n) ≡ b → call_of m (set_value (is_at (nat_cmp n)) es new) ≡ cond b (Some i) (call_of m es)) [
      | true ↦ (λ h.
          let same : m ≡ n = number_same m n h in
          rw same (ap (option_and_then (λ (s : CacheRight). s.invalidation)) (lookup_set n es new ∙ ap (option_map (λ (w : CacheRight). new)) found) ∙ is))
      | false ↦ (λ h. ap (option_and_then (λ (s : CacheRight). s.invalidation)) (lookup_set_apart n m (differs m n h) es new))
    ]) refl

pub tied_set : (n i : ℕ) (es : List (ℕ × CacheRight)) (old new : CacheRight) (ended : ℕ) (ns : List ℕ) → lookup (is_at (nat_cmp n)) es ≡ Some old → old.invalidation ≡ None → new.invalidation ≡ Some i → i ≡ ended + length ns + 1
    → AreTied es ended ns → AreTied (set_value (is_at (nat_cmp n)) es new) ended (ns ++ n ∷ [])
tied_set n i es old new ended ns found fresh is next tied = λ j m.
    let none : call_of n es ≡ None = ap (option_and_then (λ (s : CacheRight). s.invalidation)) found ∙ fresh in
    ap (has_number j) (call_set n m i es old new found is)
    ∙ (step j m (asked_by j ended ns) (m == n) refl (tied j m) (λ k e. within j k ended ns e) (λ s. sym (ap (has_number j) (ap (λ z. call_of z es) s ∙ none)) ∙ ap (λ b. b) (tied j m))
    ∙ ap (has_number m) (ap (λ z. option_or (asked_by j ended ns) (cond (j == z) (Some n) None)) next ∙ sym (asked_last j n ended ns)))
  where
    -- by what asked it before
    step : (j m : ℕ) (o : Option ℕ) (b : Bool) → (m == n) ≡ b → has_number j (call_of m es) ≡ has_number m o → ((k : ℕ) → o ≡ Some k → j ≤ ended + length ns) → (m ≡ n → false ≡ has_number m o)
        → has_number j (cond b (Some i) (call_of m es)) ≡ has_number m (option_or o (cond (j == i) (Some n) None))
    step j m (Some k) true e t w f =
        let most : j ≤ ended + length ns = w k refl in
        let away : (j == i) ≡ false = never (j == i) (λ s. let same : j ≡ i = number_same j i s in omega arith) in
        away ∙ f (number_same m n e)
    step j m (Some k) false e t w f = t
    step j m None true e t w f = here (j == i)
      where
        here : (c : Bool) → c ≡ has_number m (cond c (Some n) None)
        here true = sym e
        here false = refl
    step j m None false e t w f = t ∙ here (j == i)
      where
        here : (c : Bool) → false ≡ has_number m (cond c (Some n) None)
        here true = sym e
        here false = refl

-- ---- rights that end

call_removed : (n m : ℕ) (es : List (ℕ × CacheRight)) → IsStrictlySortedBy nat_cmp (keys_of es) → call_of m (remove_entry (is_at (nat_cmp n)) es) ≡ cond (m == n) None (call_of m es)
call_removed n m es sorted =
    (elim (m == n) as (λ b. (m == n) ≡ b → call_of m (remove_entry (is_at (nat_cmp n)) es) ≡ cond b None (call_of m es)) [
      | true ↦ (λ h. let same : m ≡ n = number_same m n h in rw same (ap (option_and_then (λ (s : CacheRight). s.invalidation)) (lookup_removed n es sorted)))
      | false ↦ (λ h. ap (option_and_then (λ (s : CacheRight). s.invalidation)) (lookup_removed_apart n m (differs m n h) es))
    ]) refl

none_at : (i : ℕ) (ended : ℕ) (ns : List ℕ) → i ≤ ended → asked_by i ended ns ≡ None
none_at i ended ns le =
    (elim (asked_by i ended ns) as (λ o. asked_by i ended ns ≡ o → o ≡ None) [
      | None ↦ (λ e. refl)
      | Some n ↦ (λ e. absurd (let less : ended < i = behind i n ended ns e in omega arith))
    ]) refl

-- the first of them ends
pub tied_rest : (es : List (ℕ × CacheRight)) (ended n : ℕ) (ns : List ℕ) → IsStrictlySortedBy nat_cmp (keys_of es) → AreTied es ended (n ∷ ns) → AreTied (remove_entry (is_at (nat_cmp n)) es) (ended + 1) ns
tied_rest es ended n ns sorted tied = λ i m. ap (has_number i) (call_removed n m es sorted) ∙ step i m (m == n) refl
  where
    own : has_number (ended + 1) (call_of n es) ≡ true
    own = tied (ended + 1) n ∙ (ap (λ b. has_number n (cond b (Some n) (asked_by (ended + 1) (ended + 1) ns))) (same_number (ended + 1)) ∙ same_number n)

    -- no later invalidation asked it back too
    once : (i : ℕ) → has_number n (asked_by i (ended + 1) ns) ≡ true → ⊥
    once i h =
        let later : ended + 1 < i = behind i n (ended + 1) ns (has_is n (asked_by i (ended + 1) ns) h) in
        let away : (i == ended + 1) ≡ false = never (i == ended + 1) (λ s. let same : i ≡ ended + 1 = number_same i (ended + 1) s in omega arith) in
        let also : has_number i (call_of n es) ≡ true = tied i n ∙ (ap (λ b. has_number n (cond b (Some n) (asked_by i (ended + 1) ns))) away ∙ h) in
        let first : call_of n es ≡ Some (ended + 1) = has_is (ended + 1) (call_of n es) own in
        let second : call_of n es ≡ Some i = has_is i (call_of n es) also in
        let same : ◌≡◌ {A = Option ℕ} (Some (ended + 1)) (Some i) = sym first ∙ second in
        let is : ended + 1 ≡ i = cc in
        omega arith

    step : (i m : ℕ) (b : Bool) → (m == n) ≡ b → has_number i (cond b None (call_of m es)) ≡ has_number m (asked_by i (ended + 1) ns)
    step i m true e =
        let same : m ≡ n = number_same m n e in
        sym (never (has_number m (asked_by i (ended + 1) ns)) (λ h. once i (ap (λ z. has_number z (asked_by i (ended + 1) ns)) (sym same) ∙ h)))
    step i m false e =
        tied i m
        ∙ (elim (i == ended + 1) as (λ c. (i == ended + 1) ≡ c → has_number m (cond c (Some n) (asked_by i (ended + 1) ns)) ≡ has_number m (asked_by i (ended + 1) ns)) [
          | true ↦ (λ s.
              let same : i ≡ ended + 1 = number_same i (ended + 1) s in
              e ∙ sym (ap (has_number m) (none_at i (ended + 1) ns (omega arith))))
          | false ↦ (λ s. refl)
        ]) refl

-- the right that the next invalidation to end asked back is there
pub first_there : (es : List (ℕ × CacheRight)) (ended n : ℕ) (ns : List ℕ) → AreTied es ended (n ∷ ns) → call_of n es ≡ Some (ended + 1)
first_there es ended n ns tied =
    has_is (ended + 1) (call_of n es) (tied (ended + 1) n ∙ (ap (λ b. has_number n (cond b (Some n) (asked_by (ended + 1) (ended + 1) ns))) (same_number (ended + 1)) ∙ same_number n))

looked : (n i : ℕ) (es : List (ℕ × CacheRight)) → call_of n es ≡ Some i → (r : CacheRight) × (lookup (is_at (nat_cmp n)) es ≡ Some r) × (r.invalidation ≡ Some i)
looked n i es h =
    (elim (lookup (is_at (nat_cmp n)) es) as (λ o. lookup (is_at (nat_cmp n)) es ≡ o → option_and_then (λ (s : CacheRight). s.invalidation) o ≡ Some i → (r : CacheRight) × (lookup (is_at (nat_cmp n)) es ≡ Some r) × (r.invalidation ≡ Some i)) [
      | None ↦ (λ e k. cc)
      | Some r ↦ (λ e k. (r, e, k))
    ]) refl h

abbrev one : CacheRight → ℕ
one r = cond (is_some r.invalidation) 1 0

one_less : {V : Type 0} (test : ℕ → Bool) (es : List (ℕ × V)) (v : V) → lookup test es ≡ Some v → length (remove_entry test es) + 1 ≡ length es
one_less test [] v h = cc
one_less {V} test (e ∷ es) v h =
    (elim (test e.0) as (λ b. cond b (Some e.1) (lookup test es) ≡ Some v → length (cond b es (e ∷ remove_entry test es)) + 1 ≡ length (e ∷ es)) [
      | true ↦ (λ k. omega arith)
      | false ↦ (λ k. let i : length (remove_entry test es) + 1 ≡ length es = one_less test es v k in omega arith)
    ]) h

-- what doesn't stay anyway may go before
filter_removed : (q : CacheRight → Bool) (n : ℕ) (es : List (ℕ × CacheRight)) (r : CacheRight) → lookup (is_at (nat_cmp n)) es ≡ Some r → q r ≡ false → filter (λ e. q e.1) (remove_entry (is_at (nat_cmp n)) es) ≡ filter (λ e. q e.1) es
filter_removed q n [] r found goes = cc
filter_removed q n (e ∷ es) r found goes =
    (elim (is_at (nat_cmp n) e.0) as (λ b. cond b (Some e.1) (lookup (is_at (nat_cmp n)) es) ≡ Some r → filter (λ (f : ℕ × CacheRight). q f.1) (cond b es (e ∷ remove_entry (is_at (nat_cmp n)) es)) ≡ filter (λ (f : ℕ × CacheRight). q f.1) (e ∷ es)) [
      | true ↦ (λ k.
          let same : e.1 ≡ r = cc in
          let no_more : q e.1 ≡ false = ap q same ∙ goes in
          ap (λ b. cond b (e ∷ filter (λ (f : ℕ × CacheRight). q f.1) es) (filter (λ (f : ℕ × CacheRight). q f.1) es)) (sym no_more))
      | false ↦ (λ k. ap (λ l. cond (q e.1) (e ∷ l) l) (filter_removed q n es r k goes))
    ]) found

-- what all stays
stays : (upto : ℕ) (es : List (ℕ × CacheRight)) → IsStrictlySortedBy nat_cmp (keys_of es) → ((m : ℕ) → is_ended_by (endings.Acknowledgement upto) (call_of m es) ≡ false)
    → filter (λ e. not (is_ended_by (endings.Acknowledgement upto) e.1.invalidation)) es ≡ es
stays upto [] sorted none = refl
stays upto (e ∷ es) sorted none =
    let first : (lookup (is_at (nat_cmp e.0)) es ≡ None) × IsStrictlySortedBy nat_cmp (keys_of es) = first_only e.0 e.1 es sorted in
    let here : is_ended_by (endings.Acknowledgement upto) e.1.invalidation ≡ false = sym (ap (λ o. is_ended_by (endings.Acknowledgement upto) (option_and_then (λ (s : CacheRight). s.invalidation) o)) (head_found e es)) ∙ none e.0 in
    let rest : filter (λ (f : ℕ × CacheRight). not (is_ended_by (endings.Acknowledgement upto) f.1.invalidation)) es ≡ es = stays upto es first.1 (λ m. tail m (m == e.0) refl first.0 (none m)) in
    ap (λ b. cond (not b) (e ∷ filter (λ (f : ℕ × CacheRight). not (is_ended_by (endings.Acknowledgement upto) f.1.invalidation)) es) (filter (λ (f : ℕ × CacheRight). not (is_ended_by (endings.Acknowledgement upto) f.1.invalidation)) es)) here
    ∙ ap (λ l. e ∷ l) rest
  where
    head_found : (e : ℕ × CacheRight) (es : List (ℕ × CacheRight)) → lookup (is_at (nat_cmp e.0)) (e ∷ es) ≡ Some e.1
    head_found e es = ap (λ b. cond b (Some e.1) (lookup (is_at (nat_cmp e.0)) es)) (at_itself e.0)

    tail : (m : ℕ) (b : Bool) → (m == e.0) ≡ b → lookup (is_at (nat_cmp e.0)) es ≡ None → is_ended_by (endings.Acknowledgement upto) (call_of m (e ∷ es)) ≡ false → is_ended_by (endings.Acknowledgement upto) (call_of m es) ≡ false
    tail m true h gone k =
        let same : m ≡ e.0 = number_same m e.0 h in
        ap (λ o. is_ended_by (endings.Acknowledgement upto) (option_and_then (λ (s : CacheRight). s.invalidation) o)) (ap (λ z. lookup (is_at (nat_cmp z)) es) same ∙ gone)
    tail m false h gone k =
        ap (λ b. is_ended_by (endings.Acknowledgement upto) (option_and_then (λ (s : CacheRight). s.invalidation) (cond b (Some e.1) (lookup (is_at (nat_cmp m)) es)))) (sym (apart m e.0 (differs m e.0 h))) ∙ k

-- ---- the first of them end

pub record Ends (upto : ℕ) (es : List (ℕ × CacheRight)) (ended k : ℕ) (ns : List ℕ) : Type 0 where
  pub tied : AreTied (without_all es (take k ns)) (ended + k) (drop k ns)
  pub sorted : IsStrictlySortedBy nat_cmp (keys_of (without_all es (take k ns)))
  pub counted : length (drop k ns) ≡ count_waiting (without_all es (take k ns))
  pub gone : k + length (without_all es (take k ns)) ≡ length es
  pub left : filter (λ e. not (is_ended_by (endings.Acknowledgement upto) e.1.invalidation)) (without_all es (take k ns)) ≡ filter (λ e. not (is_ended_by (endings.Acknowledgement upto) e.1.invalidation)) es

pub they_end : (upto : ℕ) (es : List (ℕ × CacheRight)) (ended k : ℕ) (ns : List ℕ) → k ≤ length ns → (0 < k → ended + k ≤ upto) → IsStrictlySortedBy nat_cmp (keys_of es) → length ns ≡ count_waiting es → AreTied es ended ns → Ends upto es ended k ns
they_end upto es ended zero ns short most sorted counted tied =
    let e : ended ≡ ended + 0 = omega arith in
    let all : drop 0 ns ≡ ns = refl in
    record { tied = subst (λ z. AreTied es z ns) e tied; sorted = sorted; counted = counted; gone = omega arith; left = refl }
they_end upto es ended (suc k) [] short most sorted counted tied = absurd (omega arith)
they_end upto es ended (suc k) (n ∷ ns) short most sorted counted tied =
    let found : (r : CacheRight) × (lookup (is_at (nat_cmp n)) es ≡ Some r) × (r.invalidation ≡ Some (ended + 1)) = looked n (ended + 1) es (first_there es ended n ns tied) in
    let rest : List (ℕ × CacheRight) = remove_entry (is_at (nat_cmp n)) es in
    let is_one : ◌≡◌ {A = ℕ} (one found.0) 1 = ap (λ (i : Option ℕ). cond (is_some i) 1 0) found.2 in
    let there : ◌≡◌ {A = ℕ} (unwrap_or (option_map one (lookup (is_at (nat_cmp n)) es)) 0) 1 = ap (λ o. unwrap_or (option_map one o) 0) found.1 ∙ is_one in
    let fewer : length ns ≡ count_waiting rest = omega (arith, counted, there, sum_by-remove_entry one (is_at (nat_cmp n)) es) in
    let top : ended + suc k ≤ upto = most (omega arith) in
    let le : ended + 1 ≤ upto = omega arith in
    let covers : nat_le (ended + 1) upto ≡ true = grind (arith, nat_tests, le) in
    let ends : not (is_ended_by (endings.Acknowledgement upto) found.0.invalidation) ≡ false = ap (λ i. not (is_ended_by (endings.Acknowledgement upto) i)) found.2 ∙ ap not covers in
    let tail : Ends upto rest (ended + 1) k ns = they_end upto rest (ended + 1) k ns (omega arith) (λ p. omega arith) (sorted_remove nat_cmp_total (is_at (nat_cmp n)) es sorted) fewer (tied_rest es ended n ns sorted tied) in
    let shift : ended + 1 + k ≡ ended + suc k = omega arith in
    let less : length rest + 1 ≡ length es = one_less (is_at (nat_cmp n)) es found.0 found.1 in
    record {
      tied = subst (λ z. AreTied (without_all rest (take k ns)) z (drop k ns)) shift tail.tied;
      sorted = tail.sorted;
      counted = tail.counted;
      gone = omega (arith, tail.gone, less);
      left = tail.left ∙ filter_removed (λ r. not (is_ended_by (endings.Acknowledgement upto) r.invalidation)) n es found.0 found.1 ends;
    }

-- of so many as an acknowledgement ends, nothing is left that it ends
pub all_ended : (upto invalidations ended k : ℕ) (es : List (ℕ × CacheRight)) (ns : List ℕ) → k ≡ min upto invalidations - ended → AreCalled invalidations es ended ns → IsStrictlySortedBy nat_cmp (keys_of es)
    → (without_all es (take k ns) ≡ filter (λ e. not (is_ended_by (endings.Acknowledgement upto) e.1.invalidation)) es) × (k + length (without_all es (take k ns)) ≡ length es) × AreCalled invalidations (without_all es (take k ns)) (ended + k) (drop k ns)
all_ended upto invalidations ended k es ns is called sorted =
    let bound : (min upto invalidations ≤ upto) × (min upto invalidations ≤ invalidations) × (invalidations < upto → min upto invalidations ≡ invalidations) × (upto ≤ invalidations → min upto invalidations ≡ upto) = least upto invalidations in
    let below : min upto invalidations ≤ upto = bound.0 in
    let inside : min upto invalidations ≤ invalidations = bound.1 in
    let issued : ended + length ns ≡ invalidations = called.issued in
    let short : k ≤ length ns = omega arith in
    let ends : Ends upto es ended k ns = they_end upto es ended k ns short (λ p. omega arith) sorted called.counted called.tied in
    let none : (m : ℕ) → is_ended_by (endings.Acknowledgement upto) (call_of m (without_all es (take k ns))) ≡ false = λ m. late m (call_of m (without_all es (take k ns))) refl ends bound.2 bound.3 short in
    (sym (stays upto (without_all es (take k ns)) ends.sorted none) ∙ ends.left, ends.gone, record { issued = omega (arith, long short); counted = ends.counted; tied = ends.tied })
  where
    least : (a b : ℕ) → (min a b ≤ a) × (min a b ≤ b) × (b < a → min a b ≡ b) × (a ≤ b → min a b ≡ a)
    least a b = (omega arith, omega arith, λ h. omega arith, λ h. omega arith)

    long : k ≤ length ns → length (drop k ns) + k ≡ length ns
    long short = dropped k ns short
      where
        dropped : (k : ℕ) (ns : List ℕ) → k ≤ length ns → length (drop k ns) + k ≡ length ns
        dropped zero ns h = omega arith
        dropped (suc k) [] h = absurd (omega arith)
        dropped (suc k) (n ∷ ns) h = let tail : length (drop k ns) + k ≡ length ns = dropped k ns (omega arith) in omega arith

    late : (m : ℕ) (o : Option ℕ) → call_of m (without_all es (take k ns)) ≡ o → Ends upto es ended k ns → (invalidations < upto → min upto invalidations ≡ invalidations) → (upto ≤ invalidations → min upto invalidations ≡ upto) → k ≤ length ns → is_ended_by (endings.Acknowledgement upto) o ≡ false
    late m None e ends far near short = refl
    late m (Some i) e ends far near short =
        let asked : asked_by i (ended + k) (drop k ns) ≡ Some m = has_is m (asked_by i (ended + k) (drop k ns)) (sym (ends.tied i m) ∙ has_own i (call_of m (without_all es (take k ns))) e) in
        let less : ended + k < i = behind i m (ended + k) (drop k ns) asked in
        let most : i ≤ ended + k + length (drop k ns) = within i m (ended + k) (drop k ns) asked in
        never (nat_le i upto) (λ t.
        let le : i ≤ upto = grind (arith, nat_tests, t) in
        let issued : ended + length ns ≡ invalidations = called.issued in
        let whole : length (drop k ns) + k ≡ length ns = long short in
        (elim (nat_le upto invalidations) as (λ b. nat_le upto invalidations ≡ b → ⊥) [
          | true ↦ (λ c. let inside : upto ≤ invalidations = grind (arith, nat_tests, c) in let same : min upto invalidations ≡ upto = near inside in omega arith)
          | false ↦ (λ c. let over : invalidations < upto = grind (arith, nat_tests, c) in let same : min upto invalidations ≡ invalidations = far over in omega arith)
        ]) refl)

-- ---- one more of the first

pub taken_one : (k j n : ℕ) (all rest : List ℕ) → j ≡ suc k → all ≡ n ∷ rest → take j all ≡ n ∷ take k rest
taken_one k j n all rest e f = ap (λ i. take i all) e ∙ ap (take (suc k)) f

dropped_one : (k j n : ℕ) (all rest : List ℕ) → j ≡ suc k → all ≡ n ∷ rest → drop j all ≡ drop k rest
dropped_one k j n all rest e f = ap (λ i. drop i all) e ∙ ap (drop (suc k)) f

pub number_more : (left n : ℕ) (all rest : List ℕ) (t u t' : List (ℕ × Unit {0})) → left ≢ 0 → all ≡ n ∷ rest → t' ≡ with_number t n → fold with_number t (take left all) ≡ u → fold with_number t' (take (left - 1) rest) ≡ u
number_more left n all rest t u t' some first put told =
    let e : left ≡ suc (left - 1) = omega arith in
    ap (λ l. fold with_number l (take (left - 1) rest)) put ∙ (sym (ap (fold with_number t) (taken_one (left - 1) left n all rest e first)) ∙ told)

pub end_more : (count done n : ℕ) (all rest : List ℕ) (es es' u : List (ℕ × CacheRight)) → done < count → all ≡ n ∷ rest → es' ≡ remove_entry (is_at (nat_cmp n)) es → without_all es (take (count - done) all) ≡ u → without_all es' (take (count - (done + 1)) rest) ≡ u
end_more count done n all rest es es' u less first removed ended =
    let e : count - done ≡ suc (count - (done + 1)) = omega arith in
    ap (λ l. without_all l (take (count - (done + 1)) rest)) removed ∙ (sym (ap (without_all es) (taken_one (count - (done + 1)) (count - done) n all rest e first)) ∙ ended)

pub left_behind : (count done n : ℕ) (all rest u : List ℕ) → done < count → all ≡ n ∷ rest → drop (count - done) all ≡ u → drop (count - (done + 1)) rest ≡ u
left_behind count done n all rest u less first left =
    let e : count - done ≡ suc (count - (done + 1)) = omega arith in
    sym (dropped_one (count - (done + 1)) (count - done) n all rest e first) ∙ left

pub free_more : (o : Bool) (q : ℕ → Bool) (left n : ℕ) (all rest : List ℕ) (x y u : Option ℕ) → left ≢ 0 → all ≡ n ∷ rest → y ≡ cond (o && q n) None x → cond (o && list_any q (take left all)) None x ≡ u → cond (o && list_any q (take (left - 1) rest)) None y ≡ u
free_more o q left n all rest x y u some first free told =
    let e : left ≡ suc (left - 1) = omega arith in
    ap (λ z. cond (o && list_any q (take (left - 1) rest)) None z) free
    ∙ (joined o (q n) (list_any q (take (left - 1) rest)) x
    ∙ (sym (ap (λ l. cond (o && list_any q l) None x) (taken_one (left - 1) left n all rest e first)) ∙ told))
  where
    joined : (o a b : Bool) (x : Option ℕ) → cond (o && b) None (cond (o && a) None x) ≡ cond (o && (a || b)) None x
    joined true true true x = refl
    joined true true false x = refl
    joined true false b x = refl
    joined false a b x = refl

pub swapped : (a b : Bool) (o : Option ℕ) → cond (a && b) None o ≡ cond (b && a) None o
swapped true true o = refl
swapped true false o = refl
swapped false true o = refl
swapped false false o = refl

pub nothing_free : (b : Bool) (o : Option ℕ) → o ≡ cond (b && false) None o
nothing_free true o = refl
nothing_free false o = refl

pub ended_called : (upto invalidations ended ended' k room room' : ℕ) (es es' : List (ℕ × CacheRight)) (ns ns' : List ℕ) → k ≡ min upto invalidations - ended → AreCalled invalidations es ended ns × (length es ≤ room) → IsStrictlySortedBy nat_cmp (keys_of es)
    → es' ≡ without_all es (take k ns) → ns' ≡ drop k ns → ended' ≡ ended → room' ≡ room → AreCalled invalidations es' (ended' + k) ns' × (length es' ≤ room')
ended_called upto invalidations ended ended' k room room' es es' ns ns' is h sorted e f g same =
    let all = all_ended upto invalidations ended k es ns is h.0 sorted in
    let gone : k + length (without_all es (take k ns)) ≡ length es = all.1 in
    let most : length es ≤ room = h.1 in
    rw (e, f, g, same) (all.2, omega arith)

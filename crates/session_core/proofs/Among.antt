-- The first of some clients that passes is the lowest, where all that pass are among them.
use Rattle.std.proofs.Common.{◌≡◌, ℕ, ◌<◌, ◌≤◌, List, [], ◌∷◌, Bool, true, false, cond, Option, Some, None, Less, refl, ap, arith, subst}
use Rattle.std.specs.Prelude.{◌||◌}
use Rattle.std.specs.Ordering.{nat_cmp}
use Rattle.std.specs.List.{AllByRecursion, list_any}
use Rattle.std.specs.List.Sorted.{IsStrictlySortedBy}
use Rattle.std.specs.Map.{keys_of}
use Rattle.std.specs.BTreeMap.{is_at}
use Rattle.collections.specs.Timers.{has_key}
use Rattle.session_core.proofs.Keys.{below, same_key}
use Rattle.session_core.proofs.Lowest.{lowest_is}
use Rattle.session_core.specs.declared.records.Session.{Session}
use Rattle.session_core.specs.Sessions.{SessionTable, lowest, passes, IsLowest, AreAllAmong}

-- what is left of them
abbrev pub AreLeft : {K : Type 0} → SessionTable K → (ℕ → Session K → Bool) → List ℕ → Type 0
AreLeft s test left = AreAllAmong s test left × IsStrictlySortedBy nat_cmp left

above : (client other : ℕ) (next : List ℕ) → AllByRecursion (λ y. nat_cmp client y ≡ Less) next → list_any (is_at (nat_cmp other)) next ≡ true → client < other
above client other [] h there = absurd (cc)
above client other (x ∷ next) h there =
    (elim (is_at (nat_cmp other) x) as (λ b. is_at (nat_cmp other) x ≡ b → (b || list_any (is_at (nat_cmp other)) next) ≡ true → client < other) [
      | true ↦ (λ e k. let same : other ≡ x = same_key other x e in let lt : client < x = below client x h.0 in omega arith)
      | false ↦ (λ e k. above client other next h.1 k)
    ]) refl there

first_of : (client other : ℕ) (next : List ℕ) → IsStrictlySortedBy nat_cmp (client ∷ next) → has_key (client ∷ next) other ≡ true → client ≤ other
unfolding IsStrictlySortedBy
first_of client other next sorted there =
    (elim (is_at (nat_cmp other) client) as (λ b. is_at (nat_cmp other) client ≡ b → (b || list_any (is_at (nat_cmp other)) next) ≡ true → client ≤ other) [
      | true ↦ (λ e k. let same : other ≡ client = same_key other client e in omega arith)
      | false ↦ (λ e k. let lt : client < other = above client other next sorted.0 k in omega arith)
    ]) refl there

tail_sorted : (client : ℕ) (next : List ℕ) → IsStrictlySortedBy nat_cmp (client ∷ next) → IsStrictlySortedBy nat_cmp next
unfolding IsStrictlySortedBy
tail_sorted client next sorted = sorted.1

pub found_first : {K : Type 0} (s : SessionTable K) (test : ℕ → Session K → Bool) (left next : List ℕ) (client : ℕ) → AreLeft s test left → left ≡ client ∷ next → passes s test client ≡ true → IsLowest s test (Some client)
found_first {K} s test left next client h steps holds =
    let P : List ℕ → Type 0 = λ keys. AreLeft s test keys in
    let now : AreLeft s test (client ∷ next) = subst P steps h in
    (holds, λ other passing. first_of client other next now.1 (now.0 other passing))

pub first_passed : {K : Type 0} (s : SessionTable K) (test : ℕ → Session K → Bool) (left next : List ℕ) (client : ℕ) → AreLeft s test left → left ≡ client ∷ next → passes s test client ≡ false → AreLeft s test next
first_passed {K} s test left next client h steps fails =
    let P : List ℕ → Type 0 = λ keys. AreLeft s test keys in
    let now : AreLeft s test (client ∷ next) = subst P steps h in (
      λ other passing.
          (elim (is_at (nat_cmp other) client) as (λ b. is_at (nat_cmp other) client ≡ b → (b || list_any (is_at (nat_cmp other)) next) ≡ true → has_key next other ≡ true) [
            | true ↦ (λ e k. let same : passes s test other ≡ passes s test client = ap (passes s test) (same_key other client e) in absurd (cc))
            | false ↦ (λ e k. k)
          ]) refl (now.0 other passing),
      tail_sorted client next now.1,
    )

pub none_left_of : {K : Type 0} (s : SessionTable K) (test : ℕ → Session K → Bool) (left : List ℕ) → AreLeft s test left → left ≡ [] → IsLowest s test None
none_left_of {K} s test left h steps =
    let P : List ℕ → Type 0 = λ keys. AreAllAmong s test keys in
    let nobody : AreAllAmong s test [] = subst P steps h.0 in
    λ other.
    (elim (passes s test other) as (λ b. passes s test other ≡ b → b ≡ false) [
      | true ↦ (λ e. absurd (let there : has_key [] other ≡ true = nobody other e in cc))
      | false ↦ (λ e. refl)
    ]) refl

-- ---- there is one lowest

one_lowest : {K : Type 0} (s : SessionTable K) (test : ℕ → Session K → Bool) (a b : Option ℕ) → IsLowest s test a → IsLowest s test b → a ≡ b
one_lowest s test None None h g = refl
one_lowest s test None (Some y) h g = absurd (let none : passes s test y ≡ false = h y in cc)
one_lowest s test (Some x) None h g = absurd (let none : passes s test x ≡ false = g x in cc)
one_lowest s test (Some x) (Some y) h g =
    let le : x ≤ y = h.1 y g.0 in
    let ge : y ≤ x = g.1 x h.0 in
    let same : x ≡ y = omega arith in
    ap (λ n. Some n) same

pub lowest_from : {K : Type 0} (view s : SessionTable K) (test : ℕ → Session K → Bool) (o : Option ℕ) → view ≡ s → IsStrictlySortedBy nat_cmp (keys_of view.sessions) → IsLowest s test o → o ≡ lowest s test
lowest_from {K} view s test o same sorted h = one_lowest s test o (lowest s test) h (lowest_is view s test (lowest s test) same sorted refl)

chosen : (b : Bool) (n x : ℕ) → Some x ≡ cond b (Some n) None → (b ≡ true) × (n ≡ x)
chosen true n x h = (refl, cc)
chosen false n x h = absurd (cc)

unchosen : (b : Bool) (n : ℕ) (o : Option ℕ) → o ≡ None → o ≡ cond b (Some n) None → b ≡ false
unchosen true n o e h = absurd (cc)
unchosen false n o e h = refl

pub chosen_first : {K : Type 0} (s : SessionTable K) (test : ℕ → Session K → Bool) (left next : List ℕ) (number client : ℕ) → AreLeft s test left → left ≡ number ∷ next → Some client ≡ cond (passes s test number) (Some number) None → IsLowest s test (Some client)
chosen_first {K} s test left next number client h steps answer =
    let chose = chosen (passes s test number) number client answer in
    let P : ℕ → Type 0 = λ n. IsLowest s test (Some n) in
    subst P chose.1 (found_first s test left next number h steps chose.0)

pub passed_by : {K : Type 0} (s : SessionTable K) (test : ℕ → Session K → Bool) (left next : List ℕ) (number : ℕ) (o : Option ℕ) → AreLeft s test left → left ≡ number ∷ next → o ≡ None → o ≡ cond (passes s test number) (Some number) None → AreLeft s test next
passed_by {K} s test left next number o h steps none answer = first_passed s test left next number h steps (unchosen (passes s test number) number o none answer)

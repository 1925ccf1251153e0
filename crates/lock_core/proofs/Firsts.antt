-- The first of some instances whose lock is due is the lowest one, where all that are due are among them.
use Rattle.std.proofs.Common.{◌≡◌, ℕ, ◌<◌, ◌≤◌, List, [], ◌∷◌, Bool, true, false, cond, Option, Some, None, Less, refl, sym, ap, ◌∙◌, arith, subst}
use Rattle.std.specs.Prelude.{◌||◌, find, unwrap_or}
use Rattle.std.specs.Option.{option_map}
use Rattle.std.specs.Ordering.{nat_cmp}
use Rattle.std.specs.List.{AllByRecursion, list_any}
use Rattle.std.specs.List.Sorted.{IsStrictlySortedBy}
use Rattle.std.specs.Map.{keys_of, lookup}
use Rattle.std.specs.BTreeMap.{is_at}
use Rattle.collections.proofs.Keys.{below, at_itself, same_key, apart}
use Rattle.collections.specs.Timers.{has_key}
use Rattle.lock_core.specs.State.{LockState, lock_of}
use Rattle.lock_core.specs.Locks.{LockTable, lock_at, is_due, due, first_due}
use Rattle.lock_core.proofs.Openings.{AreAmong}

-- ---- keys in order

pub in_order : (entries locks : LockTable) → entries ≡ locks → IsStrictlySortedBy nat_cmp (keys_of entries) → IsStrictlySortedBy nat_cmp (keys_of locks)
in_order entries locks same sorted =
    let P : LockTable → Type 0 = λ l. IsStrictlySortedBy nat_cmp (keys_of l) in
    subst P same sorted

pub above : (key other : ℕ) (next : List ℕ) → AllByRecursion (λ y. nat_cmp key y ≡ Less) next → has_key next other ≡ true → key < other
above key other [] h there = absurd (cc)
above key other (x ∷ next) h there =
    (elim (is_at (nat_cmp other) x) as (λ b. is_at (nat_cmp other) x ≡ b → (b || list_any (is_at (nat_cmp other)) next) ≡ true → key < other) [
      | true ↦ (λ e k. let same : other ≡ x = same_key other x e in let lt : key < x = below key x h.0 in omega arith)
      | false ↦ (λ e k. above key other next h.1 k)
    ]) refl there

-- an instance up to one that lies below all others
pub none_up_to : (k : ℕ) (es : LockTable) → AllByRecursion (λ y. nat_cmp k y ≡ Less) (keys_of es) → (q : ℕ) → q ≤ k → lookup (is_at (nat_cmp q)) es ≡ None
none_up_to k [] h q le = refl
none_up_to k (e ∷ es) h q le =
    let over : k < e.0 = below k e.0 h.0 in
    rw (apart q e.0 (λ same. absurd (omega arith))) (none_up_to k es h.1 q le)

-- ---- the first key that passes

finds_none : (test : ℕ → Bool) (keys : List ℕ) → ((q : ℕ) → test q ≡ false) → find test keys ≡ None
finds_none test [] h = refl
finds_none test (k ∷ ks) h = rw (h k) (finds_none test ks h)

finds_same : (f g : ℕ → Bool) (keys : List ℕ) → ((q : ℕ) → f q ≡ g q) → find f keys ≡ find g keys
finds_same f g [] h = refl
finds_same f g (k ∷ ks) h = ap (λ b. cond b (Some k) (find f ks)) (h k) ∙ ap (λ o. cond (g k) (Some k) o) (finds_same f g ks h)

finds_least : (x : ℕ) (test : ℕ → Bool) (keys : List ℕ) → IsStrictlySortedBy nat_cmp keys → has_key keys x ≡ true → test x ≡ true → ((q : ℕ) → q < x → test q ≡ false) → find test keys ≡ Some x
unfolding IsStrictlySortedBy
finds_least x test [] sorted there holds least = absurd (cc)
finds_least x test (k ∷ ks) sorted there holds least =
    (elim (is_at (nat_cmp x) k) as (λ b. is_at (nat_cmp x) k ≡ b → (b || list_any (is_at (nat_cmp x)) ks) ≡ true → cond (test k) (Some k) (find test ks) ≡ Some x) [
      | true ↦ (λ e h.
          let same : k ≡ x = sym (same_key x k e) in
          let passes : test k ≡ true = ap test same ∙ holds in
          ap (λ b. cond b (Some k) (find test ks)) passes ∙ ap (λ n. Some n) same)
      | false ↦ (λ e h.
          let fails : test k ≡ false = least k (above k x ks sorted.0 h) in
          ap (λ b. cond b (Some k) (find test ks)) fails ∙ finds_least x test ks sorted.1 h holds least)
    ]) refl there

-- ---- the first instance whose lock is due

of_first : (now : ℕ) (e : ℕ × LockState) (es : LockTable) → lock_at (e ∷ es) e.0 ≡ e.1
of_first now e es = ap (λ b. unwrap_or (cond b (Some e.1) (lookup (is_at (nat_cmp e.0)) es)) (lock_of 0)) (at_itself e.0)

below_first : (now : ℕ) (e : ℕ × LockState) (es : LockTable) → AllByRecursion (λ y. nat_cmp e.0 y ≡ Less) (keys_of es) → (q : ℕ) → q < e.0 → is_due now (lock_at (e ∷ es) q) ≡ false
below_first now e es all q lt =
    let differs : is_at (nat_cmp q) e.0 ≡ false = apart q e.0 (λ same. absurd (omega arith)) in
    let absent : lookup (is_at (nat_cmp q)) es ≡ None = none_up_to e.0 es all q (omega arith) in
    ap (λ b. is_due now (unwrap_or (cond b (Some e.1) (lookup (is_at (nat_cmp q)) es)) (lock_of 0))) differs ∙ ap (λ o. is_due now (unwrap_or o (lock_of 0))) absent

past_first : (now : ℕ) (e : ℕ × LockState) (es : LockTable) → AllByRecursion (λ y. nat_cmp e.0 y ≡ Less) (keys_of es) → is_due now e.1 ≡ false → (q : ℕ) → is_due now (lock_at (e ∷ es) q) ≡ is_due now (lock_at es q)
past_first now e es all fails q =
    (elim (is_at (nat_cmp q) e.0) as (λ b. is_at (nat_cmp q) e.0 ≡ b → is_due now (unwrap_or (cond b (Some e.1) (lookup (is_at (nat_cmp q)) es)) (lock_of 0)) ≡ is_due now (lock_at es q)) [
      | true ↦ (λ at.
          let same : q ≡ e.0 = same_key q e.0 at in
          let absent : lookup (is_at (nat_cmp q)) es ≡ None = none_up_to e.0 es all q (omega arith) in
          fails ∙ sym (ap (λ o. is_due now (unwrap_or o (lock_of 0))) absent))
      | false ↦ (λ differs. refl)
    ]) refl

firsts : (now : ℕ) (locks : LockTable) (keys : List ℕ) → IsStrictlySortedBy nat_cmp (keys_of locks) → IsStrictlySortedBy nat_cmp keys → AreAmong locks now keys → first_due locks now keys ≡ due locks now
unfolding IsStrictlySortedBy
firsts now [] keys sorted ordered among = finds_none (λ q. is_due now (lock_at [] q)) keys (λ q. refl)
firsts now (e ∷ es) keys sorted ordered among =
    elim (is_due now e.1) as (λ b. is_due now e.1 ≡ b → first_due (e ∷ es) now keys ≡ option_map (λ (d : ℕ × LockState). d.0) (cond b (Some e) (find (λ d. is_due now d.1) es))) [
      | true ↦ (λ holds.
          let own : is_due now (lock_at (e ∷ es) e.0) ≡ true = ap (is_due now) (of_first now e es) ∙ holds in
          finds_least e.0 (λ q. is_due now (lock_at (e ∷ es) q)) keys ordered (among e.0 own) own (below_first now e es sorted.0))
      | false ↦ (λ fails.
          finds_same (λ q. is_due now (lock_at (e ∷ es) q)) (λ q. is_due now (lock_at es q)) keys (past_first now e es sorted.0 fails)
          ∙ firsts now es keys sorted.1 ordered (λ q h. among q (past_first now e es sorted.0 fails q ∙ h)))
    ] refl

pub first_is_lowest : (view locks : LockTable) (now : ℕ) (keys : List ℕ) (o : Option ℕ) → view ≡ locks → IsStrictlySortedBy nat_cmp (keys_of view) → IsStrictlySortedBy nat_cmp keys → AreAmong locks now keys → o ≡ first_due locks now keys → o ≡ due locks now
first_is_lowest view locks now keys o same sorted ordered among is =
    let here : AreAmong view now keys = λ q h. among q (ap (λ l. is_due now (lock_at l q)) (sym same) ∙ h) in
    is ∙ (ap (λ l. first_due l now keys) (sym same) ∙ (firsts now view keys sorted ordered here ∙ ap (λ l. due l now) same))

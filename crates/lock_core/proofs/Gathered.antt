-- What is made of some locks is what is made of all that concern a client, where each of these is among them.
use Rattle.std.proofs.Common.{◌≡◌, ℕ, nat_eq, ◌<◌, ◌≤◌, List, [], ◌∷◌, ◌++◌, Bool, true, false, cond, Option, Some, None, Less, refl, sym, ap, subst, ◌∙◌, arith, map}
use Rattle.std.specs.Prelude.{◌||◌, nat_lt, filter, unwrap_or, IfSome}
use Rattle.std.specs.Option.{option_map_or}
use Rattle.std.specs.List.{AllByRecursion}
use Rattle.std.specs.List.Sorted.{IsStrictlySortedBy}
use Rattle.std.specs.Map.{keys_of, lookup}
use Rattle.std.specs.Ordering.{nat_cmp}
use Rattle.std.specs.BTreeMap.{is_at}
use Rattle.std.proofs.lemmas.Bool.Decides.{nat_tests}
use Rattle.collections.proofs.Keys.{below, at_itself, same_key, apart}
use Rattle.collections.specs.Timers.{has_key}
use Rattle.lock_core.specs.declared.partings.Parting.{Parting}
use Rattle.lock_core.specs.State.{LockState, lock_of}
use Rattle.lock_core.specs.Turns.{lapsed, concerns}
use Rattle.lock_core.specs.Locks.{LockTable, lock_at, lapses}
use Rattle.lock_core.specs.Claimants.{ClaimantState, has, AreListed, lapses_at, lapses_among}
use Rattle.lock_core.proofs.Firsts.{above, none_up_to}

-- each lock that concerns the client is one of these
abbrev pub AreAmong : LockTable → ℕ → List ℕ → Type 0
AreAmong locks client keys = (q : ℕ) → concerns client (lock_at locks q) ≡ true → has_key keys q ≡ true

-- ---- the first lock, and those behind it

own_first : (e : ℕ × LockState) (es : LockTable) → lookup (is_at (nat_cmp e.0)) (e ∷ es) ≡ Some e.1
own_first e es = ap (λ b. cond b (Some e.1) (lookup (is_at (nat_cmp e.0)) es)) (at_itself e.0)

-- a lock behind the first that concerns the client isn't the first one's
not_first : (client : ℕ) (e : ℕ × LockState) (es : LockTable) → AllByRecursion (λ y. nat_cmp e.0 y ≡ Less) (keys_of es) → (q : ℕ) → concerns client (lock_at es q) ≡ true → is_at (nat_cmp q) e.0 ≡ false
not_first client e es behind q h =
    (elim (is_at (nat_cmp q) e.0) as (λ b. is_at (nat_cmp q) e.0 ≡ b → b ≡ false) [
      | true ↦ (λ at.
          let same : q ≡ e.0 = same_key q e.0 at in
          let absent : lookup (is_at (nat_cmp q)) es ≡ None = none_up_to e.0 es behind q (omega arith) in
          let nobody : concerns client (lock_of 0) ≡ true = ap (λ o. concerns client (unwrap_or o (lock_of 0))) (sym absent) ∙ h in
          absurd (cc))
      | false ↦ (λ at. refl)
    ]) refl

-- and is among all
behind_first : (client : ℕ) (e : ℕ × LockState) (es : LockTable) → AllByRecursion (λ y. nat_cmp e.0 y ≡ Less) (keys_of es) → (q : ℕ) → concerns client (lock_at es q) ≡ true → concerns client (lock_at (e ∷ es) q) ≡ true
behind_first client e es behind q h =
    ap (λ b. concerns client (unwrap_or (cond b (Some e.1) (lookup (is_at (nat_cmp q)) es)) (lock_of 0))) (not_first client e es behind q h) ∙ h

-- ---- keys in order

all_above : (a k : ℕ) (ks : List ℕ) → a ≤ k → AllByRecursion (λ y. nat_cmp k y ≡ Less) ks → AllByRecursion (λ y. nat_cmp a y ≡ Less) ks
all_above a k [] le h = h
all_above a k (y ∷ ks) le h = (let lt : k < y = below k y h.0 in less a y (omega arith), all_above a k ks le h.1)
  where
    less : (x z : ℕ) → x < z → nat_cmp x z ≡ Less
    less x z lt = grind (arith, nat_tests)

-- ---- no lock concerns the client

passes_none : (client : ℕ) (locks : LockTable) → IsStrictlySortedBy nat_cmp (keys_of locks) → ((q : ℕ) → concerns client (lock_at locks q) ≡ false) → filter (λ e. concerns client e.1) locks ≡ []
unfolding IsStrictlySortedBy
passes_none client [] sorted h = refl
passes_none client (e ∷ es) sorted h =
    let first : concerns client e.1 ≡ false = ap (λ o. concerns client (unwrap_or o (lock_of 0))) (sym (own_first e es)) ∙ h e.0 in
    let rest : (q : ℕ) → concerns client (lock_at es q) ≡ false = λ q.
    (elim (concerns client (lock_at es q)) as (λ b. concerns client (lock_at es q) ≡ b → b ≡ false) [
      | true ↦ (λ k. let there = behind_first client e es sorted.0 q k in let none = h q in absurd (cc))
      | false ↦ (λ k. refl)
    ]) refl in
    ap (λ b. cond b (e ∷ filter (λ d. concerns client d.1) es) (filter (λ d. concerns client d.1) es)) first ∙ passes_none client es sorted.1 rest

-- ---- of which locks it is asked

module _ {X : Type 0} (client : ℕ) (made : ℕ → LockState → X) where
  abbrev made_of : ℕ × LockState → X
  made_of e = made e.0 e.1

  abbrev pub at_key : LockTable → ℕ → List X
  at_key locks k = option_map_or (λ lock. cond (concerns client lock) (made k lock ∷ []) []) (lookup (is_at (nat_cmp k)) locks) []

  abbrev pub among : LockTable → List ℕ → List X
  among locks [] = []
  among locks (k ∷ ks) = at_key locks k ++ among locks ks

  abbrev pub out : LockTable → List X
  out locks = map made_of (filter (λ e. concerns client e.1) locks)

  at_none : (locks : LockTable) (k : ℕ) → lookup (is_at (nat_cmp k)) locks ≡ None → at_key locks k ≡ []
  at_none locks k h = ap (λ (o : Option LockState). option_map_or (λ lock. cond (concerns client lock) (made k lock ∷ []) []) o []) h

  nothing : (ks : List ℕ) → among [] ks ≡ []
  nothing [] = refl
  nothing (k ∷ ks) = nothing ks

  -- of keys above the first lock's it is asked of those behind it
  skipped : (e : ℕ × LockState) (es : LockTable) (ks : List ℕ) → AllByRecursion (λ y. nat_cmp e.0 y ≡ Less) ks → among (e ∷ es) ks ≡ among es ks
  skipped e es [] h = refl
  skipped e es (k ∷ ks) h =
      let lt : e.0 < k = below e.0 k h.0 in
      let differs : is_at (nat_cmp k) e.0 ≡ false = apart k e.0 (λ same. absurd (omega arith)) in
      ap (λ b. option_map_or (λ lock. cond (concerns client lock) (made k lock ∷ []) []) (cond b (Some e.1) (lookup (is_at (nat_cmp k)) es)) [] ++ among (e ∷ es) ks) differs
      ∙ ap (λ l. at_key es k ++ l) (skipped e es ks h.1)

  abbrev Gathers : LockTable → Type 0
  Gathers locks = (ks : List ℕ) → IsStrictlySortedBy nat_cmp ks → AreAmong locks client ks → among locks ks ≡ out locks

  -- the first lock, where the keys to ask of begin above it
  first_left_out : (e : ℕ × LockState) (es : LockTable) (ks : List ℕ) → concerns client e.1 ≡ false → out (e ∷ es) ≡ out es
  first_left_out e es ks fails = ap (λ b. map made_of (cond b (e ∷ filter (λ d. concerns client d.1) es) (filter (λ d. concerns client d.1) es))) fails

  -- and where they begin with it
  first_put : (e : ℕ × LockState) (es : LockTable) → at_key (e ∷ es) e.0 ++ out es ≡ out (e ∷ es)
  first_put e es =
      ap (λ (o : Option LockState). option_map_or (λ lock. cond (concerns client lock) (made e.0 lock ∷ []) []) o [] ++ out es) (own_first e es)
      ∙ elim (concerns client e.1) as (λ b. cond b (made_of e ∷ []) [] ++ out es ≡ map made_of (cond b (e ∷ filter (λ d. concerns client d.1) es) (filter (λ d. concerns client d.1) es))) [
        | true ↦ refl
        | false ↦ refl
      ]

  later_key : (k q : ℕ) (ks : List ℕ) → is_at (nat_cmp q) k ≡ false → has_key (k ∷ ks) q ≡ true → has_key ks q ≡ true
  later_key k q ks differs h = ap (λ b. b || has_key ks q) (sym differs) ∙ h

  -- one lock more
  one_more : (e : ℕ × LockState) (es : LockTable) → IsStrictlySortedBy nat_cmp (keys_of (e ∷ es)) → AllByRecursion (λ y. nat_cmp e.0 y ≡ Less) (keys_of es) → Gathers es → (ks : List ℕ) → IsStrictlySortedBy nat_cmp ks → AreAmong (e ∷ es) client ks → among (e ∷ es) ks ≡ out (e ∷ es)
  unfolding IsStrictlySortedBy
  one_more e es sorted behind rest [] ordered all = sym (ap (map made_of) (passes_none client (e ∷ es) sorted nobody))
    where
      nobody : (q : ℕ) → concerns client (lock_at (e ∷ es) q) ≡ false
      nobody q =
          (elim (concerns client (lock_at (e ∷ es) q)) as (λ b. concerns client (lock_at (e ∷ es) q) ≡ b → b ≡ false) [
            | true ↦ (λ h. let there = all q h in absurd (cc))
            | false ↦ (λ h. refl)
          ]) refl
  one_more e es sorted behind rest (k ∷ ks) ordered all = by_order (λ others. one_more e es sorted behind rest ks ordered.1 others) (nat_lt k e.0) (nat_eq k e.0) refl refl
    where
      by_order : (AreAmong (e ∷ es) client ks → among (e ∷ es) ks ≡ out (e ∷ es)) → (lower same : Bool) → nat_lt k e.0 ≡ lower → nat_eq k e.0 ≡ same → among (e ∷ es) (k ∷ ks) ≡ out (e ∷ es)
      by_order again true same is_lower is_same =
          let lt : k < e.0 = grind (arith, nat_tests) in
          let differs : is_at (nat_cmp k) e.0 ≡ false = apart k e.0 (λ s. absurd (omega arith)) in
          let absent : lookup (is_at (nat_cmp k)) (e ∷ es) ≡ None = ap (λ b. cond b (Some e.1) (lookup (is_at (nat_cmp k)) es)) differs ∙ none_up_to e.0 es behind k (omega arith) in
          let others : AreAmong (e ∷ es) client ks = λ q h.
          (elim (is_at (nat_cmp q) k) as (λ b. is_at (nat_cmp q) k ≡ b → has_key ks q ≡ true) [
            | true ↦ (λ at.
                let equal : q ≡ k = same_key q k at in
                let nobody : concerns client (lock_of 0) ≡ true = ap (λ o. concerns client (unwrap_or o (lock_of 0))) (sym absent) ∙ (ap (λ n. concerns client (lock_at (e ∷ es) n)) (sym equal) ∙ h) in
                absurd (cc))
            | false ↦ (λ at. later_key k q ks at (all q h))
          ]) refl in
          ap (λ l. l ++ among (e ∷ es) ks) (at_none (e ∷ es) k absent) ∙ again others
      by_order again false true is_lower is_same =
          let equal : k ≡ e.0 = grind (arith, nat_tests) in
          let P : ℕ → Type 0 = λ n. AllByRecursion (λ y. nat_cmp n y ≡ Less) ks in
          let over : P e.0 = subst P equal ordered.0 in
          let others : AreAmong es client ks = λ q h.
          let differs : is_at (nat_cmp q) k ≡ false = ap (λ n. is_at (nat_cmp q) n) equal ∙ not_first client e es behind q h in
          later_key k q ks differs (all q (behind_first client e es behind q h)) in
          ap (λ n. at_key (e ∷ es) n ++ among (e ∷ es) ks) equal
          ∙ (ap (λ l. at_key (e ∷ es) e.0 ++ l) (skipped e es ks over ∙ rest ks ordered.1 others) ∙ first_put e es)
      by_order again false false is_lower is_same =
          let lt : e.0 < k = grind (arith, nat_tests) in
          let less : nat_cmp e.0 k ≡ Less = grind (arith, nat_tests) in
          let over : AllByRecursion (λ y. nat_cmp e.0 y ≡ Less) (k ∷ ks) = (less, all_above e.0 k ks (omega arith) ordered.0) in
          let fails : concerns client e.1 ≡ false =
          (elim (concerns client e.1) as (λ b. concerns client e.1 ≡ b → b ≡ false) [
            | true ↦ (λ h.
                let there : has_key (k ∷ ks) e.0 ≡ true = all e.0 (ap (λ o. concerns client (unwrap_or o (lock_of 0))) (own_first e es) ∙ h) in
                let differs : is_at (nat_cmp e.0) k ≡ false = apart e.0 k (λ s. absurd (omega arith)) in
                let up : k < e.0 = above k e.0 ks ordered.0 (later_key k e.0 ks differs there) in
                absurd (omega arith))
            | false ↦ (λ h. refl)
          ]) refl in
          let others : AreAmong es client (k ∷ ks) = λ q h. all q (behind_first client e es behind q h) in
          skipped e es (k ∷ ks) over ∙ (rest (k ∷ ks) ordered others ∙ sym (first_left_out e es ks fails))

  pub gathered : (locks : LockTable) → IsStrictlySortedBy nat_cmp (keys_of locks) → Gathers locks
  unfolding IsStrictlySortedBy
  gathered [] sorted = λ ks ordered all. nothing ks
  gathered (e ∷ es) sorted = λ ks ordered all. one_more e es sorted sorted.0 (gathered es sorted.1) ks ordered all

-- what becomes of the locks that concern a client, of these instances
lapses_are : (parting : Parting) (client now : ℕ) (locks : LockTable) (keys : List ℕ) → lapses_among parting locks client now keys ≡ among client (λ instance lock. lapsed parting instance lock client now) locks keys
lapses_are parting client now locks [] = refl
lapses_are parting client now locks (k ∷ ks) = ap (λ l. lapses_at parting locks client now k ++ l) (lapses_are parting client now locks ks)

-- where each lock that may concern the client is among these, what becomes of them is what becomes of all
pub all_gathered : (parting : Parting) (client now : ℕ) (view locks : LockTable) (claimants : ClaimantState) (keys : List ℕ) → view ≡ locks → AreListed claimants view → IsStrictlySortedBy nat_cmp (keys_of view) → IsStrictlySortedBy nat_cmp keys → ((i : ℕ) → has claimants client i ≡ true → has_key keys i ≡ true) → lapses_among parting locks client now keys ≡ lapses parting locks client now
all_gathered parting client now view locks claimants keys same listed sorted ordered found =
    let P : LockTable → Type 0 = λ l. lapses_among parting l client now keys ≡ lapses parting l client now in
    subst P same
    (lapses_are parting client now view keys ∙ gathered client (λ instance lock. lapsed parting instance lock client now) view sorted keys ordered (λ q h. found q (listed.each client q h)))

pub some_of : {X : Type 0} (o : Option X) (x : X) (P : X → Type 0) → o ≡ Some x → IfSome o P → P x
some_of {X} o x P is h = let Q : Option X → Type 0 = λ found. IfSome found P in subst Q is h

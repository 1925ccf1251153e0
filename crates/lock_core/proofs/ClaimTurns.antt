-- How many locks a client holds or waits for, as a lock changes: one more at most for who asks, and none for others.
use Rattle.std.proofs.Common.{◌≡◌, ℕ, ◌+◌, ◌≤◌, List, [], ◌∷◌, ◌++◌, Bool, true, false, cond, Option, Some, None, Result, Ok, Err, Less, Equal, Greater, refl, ap, ◌∙◌, arith}
use Rattle.std.specs.Prelude.{◌||◌, not, filter, unwrap_or, is_some}
use Rattle.std.specs.Option.{option_map}
use Rattle.std.specs.List.{count_by}
use Rattle.std.specs.List.Sorted.{IsStrictlySortedBy}
use Rattle.std.specs.Map.{keys_of, lookup, remove_entry}
use Rattle.std.specs.Ordering.{nat_cmp, match_ordering}
use Rattle.std.specs.Cmp.{nat_cmp_total}
use Rattle.std.specs.BTreeMap.{is_at, insert_entry}
use Rattle.std.proofs.lemmas.List.Sums.{sum_by-cons, sum_by-append}
use Rattle.std.proofs.lemmas.Map.Entries.{sum_by-insert_entry, sum_by-remove_entry}
use Rattle.node_core.specs.declared.kinds.LockMode.{LockMode}
use Rattle.node_core.specs.declared.refusals.Fault.{Fault}
use Rattle.node_core.specs.declared.refusals.Fault.TheVariants as faults
use Rattle.lock_core.specs.declared.claims.Owner.{Owner}
use Rattle.lock_core.specs.declared.claims.Hold.{Hold}
use Rattle.lock_core.specs.declared.claims.Claim.{Claim}
use Rattle.lock_core.specs.declared.claims.Closing.{Closing}
use Rattle.lock_core.specs.declared.turns.Turn.{Turn}
use Rattle.lock_core.specs.declared.turns.Acquired.{Acquired}
use Rattle.lock_core.specs.declared.turns.Acquired.TheVariants.{Held, Waits}
use Rattle.lock_core.specs.State.{LockState, Holders, lock_of, owner_order, hold_of, mode_of, fits, is_exhausted}
use Rattle.lock_core.specs.Turns.{is_of_client, is_owner, held_by, waited_by, without, any_waits, served_from, served, turned_away, settled, may_hold, rival_mode, tried_beside, tried_by, tried, acquired_by, acquired, released, closed_by}
use Rattle.lock_core.specs.Locks.{LockTable, lock_at, with_lock}
use Rattle.lock_core.specs.Counted.{claims_in, claim_count}

-- ---- lists

abbrev pub one_where : Bool → ℕ
one_where b = cond b 1 0

pub one_at_most : (b : Bool) → one_where b ≤ 1
one_at_most true = omega arith
one_at_most false = omega arith

count_cons : {X : Type 0} (p : X → Bool) (x : X) (xs : List X) → count_by p (x ∷ xs) ≡ one_where (p x) + count_by p xs
count_cons p x xs = sum_by-cons (λ y. one_where (p y)) x xs

count_filter : {X : Type 0} (p q : X → Bool) (xs : List X) → count_by p (filter q xs) ≤ count_by p xs
count_filter p q [] = omega arith
count_filter p q (x ∷ xs) =
    let rest = count_filter p q xs in
    let whole = count_cons p x xs in
    let more = count_cons p x (filter q xs) in
    elim (q x) as (λ b. count_by p (cond b (x ∷ filter q xs) (filter q xs)) ≤ count_by p (x ∷ xs)) [
      | true ↦ omega (arith, rest, whole, more)
      | false ↦ omega (arith, rest, whole)
    ]

module _ (client : ℕ) where
  abbrev holds : Owner × Hold → Bool
  holds entry = is_of_client client entry.0

  abbrev waits : Claim → Bool
  waits claim = is_of_client client claim.owner

  -- ---- who asks for a lock

  count_put : (holders : Holders) (owner : Owner) (hold : Hold) → count_by holds (insert_entry owner_order holders owner hold) ≤ count_by holds holders + one_where (is_of_client client owner)
  count_put [] owner hold = let one = count_cons holds (owner, hold) [] in omega (arith, one)
  count_put (e ∷ es) owner hold =
      let whole = count_cons holds e es in
      let new = count_cons holds (owner, hold) (e ∷ es) in
      let over = count_cons holds (e.0, hold) es in
      let rest = count_put es owner hold in
      let behind = count_cons holds e (insert_entry owner_order es owner hold) in
      elim (owner_order owner e.0) as (λ o. count_by holds (match_ordering o ((owner, hold) ∷ e ∷ es) ((e.0, hold) ∷ es) (e ∷ insert_entry owner_order es owner hold)) ≤ count_by holds (e ∷ es) + one_where (is_of_client client owner)) [
        | Less ↦ omega (arith, whole, new)
        | Equal ↦ omega (arith, whole, over)
        | Greater ↦ omega (arith, whole, rest, behind)
      ]

  pub counted_held : (lock : LockState) (claim : Claim) → claims_in client (held_by lock claim) ≤ claims_in client lock + one_where (is_of_client client claim.owner)
  counted_held lock claim = let more = count_put lock.holders claim.owner claim.hold in omega (arith, more)

  counted_waited : (lock : LockState) (claim : Claim) → claims_in client (waited_by lock claim) ≤ claims_in client lock + one_where (is_of_client client claim.owner)
  counted_waited lock claim =
      let all = sum_by-append (λ c. one_where (waits c)) lock.waiters (claim ∷ []) in
      let one = count_cons waits claim [] in
      omega (arith, all, one)

  -- ---- who leaves it

  counted_without : (leaves : Owner → Bool) (lock : LockState) → claims_in client (without leaves lock) ≤ claims_in client lock
  counted_without leaves lock =
      let held = count_filter holds (λ entry. not (leaves entry.0)) lock.holders in
      let awaited = count_filter waits (λ claim. not (leaves claim.owner)) lock.waiters in
      omega (arith, held, awaited)

  counted_from : (lock : LockState) (granted waiters : List Claim) → claims_in client (served_from lock granted waiters).lock ≤ claims_in client lock + count_by waits waiters
  counted_from lock granted [] = omega arith
  counted_from lock granted (first ∷ rest) =
      let one = count_cons waits first rest in
      let more = counted_held lock first in
      let later = counted_from (held_by lock first) (granted ++ first ∷ []) rest in
      elim (fits lock first) as (λ b. claims_in client (cond b (served_from (held_by lock first) (granted ++ first ∷ []) rest) (record { lock = record lock { waiters = first ∷ rest }; granted = granted; exhausted = [] })).lock ≤ claims_in client lock + count_by waits (first ∷ rest)) [
        | true ↦ omega (arith, one, more, later)
        | false ↦ omega arith
      ]

  pub counted_settled : (lock : LockState) → claims_in client (settled lock).lock ≤ claims_in client lock
  counted_settled lock =
      let all = counted_from (record lock { waiters = [] }) [] lock.waiters in
      elim (is_exhausted lock) as (λ b. claims_in client (cond b (turned_away lock) (served lock)).lock ≤ claims_in client lock) [
        | true ↦ omega arith
        | false ↦ omega (arith, all)
      ]

  pub counted_left : (leaves : Owner → Bool) (lock : LockState) → claims_in client (settled (without leaves lock)).lock ≤ claims_in client lock
  counted_left leaves lock = let less = counted_without leaves lock in let after = counted_settled (without leaves lock) in omega (arith, less, after)

  -- ---- the locks of all nodes

  found : (o : Option LockState) → unwrap_or (option_map (claims_in client) o) 0 ≡ claims_in client (unwrap_or o (lock_of 0))
  found None = refl
  found (Some lock) = refl

  pub counted_lock : (locks : LockTable) (instance : ℕ) (lock : LockState) → IsStrictlySortedBy nat_cmp (keys_of locks) → claim_count client (with_lock locks instance lock) + claims_in client (lock_at locks instance) ≡ claim_count client locks + claims_in client lock
  counted_lock locks instance lock sorted =
      let all = sum_by-insert_entry (claims_in client) nat_cmp_total locks instance lock sorted in
      let was = found (lookup (is_at (nat_cmp instance)) locks) in
      omega (arith, all, was)

  pub counted_gone : (locks : LockTable) (instance : ℕ) → claim_count client (remove_entry (is_at (nat_cmp instance)) locks) ≤ claim_count client locks
  counted_gone locks instance = let all = sum_by-remove_entry (claims_in client) (is_at (nat_cmp instance)) locks in omega (arith, all)

-- ---- what becomes of a lock that is asked for

-- a claim more at most, of who asks
abbrev pub GrowsTo : LockState → Claim → LockState → Type 0
GrowsTo lock claim new = (client : ℕ) → claims_in client new ≤ claims_in client lock + one_where (is_of_client client claim.owner)

abbrev pub GrowsAt : LockState → Claim → Acquired → Type 0
GrowsAt lock claim (Held new) = GrowsTo lock claim new
GrowsAt lock claim (Waits new) = GrowsTo lock claim new

abbrev pub GrowsBy : LockState → Claim → Result Acquired Fault → Type 0
GrowsBy lock claim (Ok got) = GrowsAt lock claim got
GrowsBy lock claim (Err fault) = Unit {0}

abbrev pub GrowsIn : LockState → Claim → Result LockState Fault → Type 0
GrowsIn lock claim (Ok new) = GrowsTo lock claim new
GrowsIn lock claim (Err fault) = Unit {0}

either_asked : (lock : LockState) (claim : Claim) (b : Bool) (x y : Result Acquired Fault) → GrowsBy lock claim x → GrowsBy lock claim y → GrowsBy lock claim (cond b x y)
either_asked lock claim true x y h k = h
either_asked lock claim false x y h k = k

asked_by : (lock : LockState) (claim : Claim) (o : Option Hold) → GrowsBy lock claim (acquired_by lock claim o)
asked_by lock claim (Some hold) = tt
asked_by lock claim None =
    either_asked lock claim (is_exhausted lock) (Err faults.Exhausted) (cond (may_hold lock claim) (Ok (Held (held_by lock claim))) (Ok (Waits (waited_by lock claim)))) tt
    (either_asked lock claim (may_hold lock claim) (Ok (Held (held_by lock claim))) (Ok (Waits (waited_by lock claim))) (λ client. counted_held client lock claim) (λ client. counted_waited client lock claim))

pub acquired_grows : (lock : LockState) (claim : Claim) → GrowsBy lock claim (acquired lock claim)
acquired_grows lock claim = asked_by lock claim (hold_of lock claim.owner)

either_tried : (lock : LockState) (claim : Claim) (b : Bool) (x y : Result LockState Fault) → GrowsIn lock claim x → GrowsIn lock claim y → GrowsIn lock claim (cond b x y)
either_tried lock claim true x y h k = h
either_tried lock claim false x y h k = k

tried_among : (lock : LockState) (claim : Claim) (o : Option LockMode) → GrowsIn lock claim (tried_beside lock claim o)
tried_among lock claim None = λ client. counted_held client lock claim
tried_among lock claim (Some mode) = either_tried lock claim (may_hold lock claim) (Ok (held_by lock claim)) (Err (faults.Held mode)) (λ client. counted_held client lock claim) tt

tried_at : (lock : LockState) (claim : Claim) (now : ℕ) (o : Option Closing) → GrowsIn lock claim (tried_by lock claim now o)
tried_at lock claim now (Some closing) = tt
tried_at lock claim now None =
    either_tried lock claim (is_exhausted lock) (Err faults.Exhausted) (tried_beside lock claim (rival_mode (mode_of lock.holders) lock.waiters)) tt (tried_among lock claim (rival_mode (mode_of lock.holders) lock.waiters))

pub tried_grows : (lock : LockState) (claim : Claim) (now : ℕ) → GrowsIn lock claim (tried lock claim now)
tried_grows lock claim now = tried_at lock claim now lock.closed

-- ---- what becomes of a lock that is left

abbrev pub Shrinks : LockState → LockState → Type 0
Shrinks lock new = (client : ℕ) → claims_in client new ≤ claims_in client lock

abbrev pub ShrinksBy : LockState → Result Turn Fault → Type 0
ShrinksBy lock (Ok turn) = Shrinks lock turn.lock
ShrinksBy lock (Err fault) = Unit {0}

abbrev pub ShrinksIn : LockState → Option Turn → Type 0
ShrinksIn lock (Some turn) = Shrinks lock turn.lock
ShrinksIn lock None = Unit {0}

pub released_shrinks : (lock : LockState) (owner : Owner) → ShrinksBy lock (released lock owner)
released_shrinks lock owner =
    elim (is_some (hold_of lock owner)) as (λ b. ShrinksBy lock (cond b (Ok (settled (without (is_owner owner) lock))) (Err faults.NotHolder))) [
      | true ↦ (λ client. counted_left client (is_owner owner) lock)
      | false ↦ tt
    ]

pub closed_shrinks : (lock : LockState) (owner : Owner) → ShrinksIn lock (closed_by lock owner)
closed_shrinks lock owner =
    elim (is_some (hold_of lock owner) || any_waits (is_owner owner) lock) as (λ b. ShrinksIn lock (cond b (Some (settled (without (is_owner owner) lock))) None)) [
      | true ↦ (λ client. counted_left client (is_owner owner) lock)
      | false ↦ tt
    ]

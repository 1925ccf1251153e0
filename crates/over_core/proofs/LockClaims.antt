-- What becomes of one lock keeps what holds of its claims.
use Rattle.std.proofs.Common.{◌≡◌, ℕ, ◌+◌, ◌≤◌, List, [], ◌∷◌, ◌++◌, Bool, true, false, cond, Ordering, Less, Equal, Greater, Option, Some, None, refl, ap, ◌∙◌, append_assoc, arith}
use Rattle.std.specs.Prelude.{◌==◌, not, max, nat_le, map, filter, fold}
use Rattle.std.specs.List.{list_all}
use Rattle.std.specs.List.Sorted.{IsStrictlySortedBy}
use Rattle.std.specs.Map.{keys_of}
use Rattle.std.specs.BTreeMap.{insert_entry}
use Rattle.std.specs.Ordering.{nat_cmp, ordering_then}
use Rattle.std.specs.Cmp.{IsTotalOrder, nat_cmp_total}
use Rattle.std.proofs.lemmas.Bool.{and_parts, and_from}
use Rattle.std.proofs.lemmas.Bool.Decides.{nat_tests}
use Rattle.std.proofs.lemmas.Cmp.{then_total, on_total}
use Rattle.std.proofs.lemmas.Map.Lookups.{CmpEqualImpliesEq, exact_unsigned}
use Rattle.node_core.specs.Limits.{lock_delay_limit}
use Rattle.rows_cell.proofs.EntriesInOrder.{sorted_put, sorted_kept}
use Rattle.rows_cell.proofs.PutEntries.{all_put, all_more}
use Rattle.rows_cell.proofs.SoundRemovals.{all_let_through}
use Rattle.lock_core.specs.declared.claims.Owner.{Owner}
use Rattle.lock_core.specs.declared.claims.Hold.{Hold}
use Rattle.lock_core.specs.declared.claims.Claim.{Claim}
use Rattle.lock_core.specs.declared.turns.Turn.{Turn}
use Rattle.lock_core.specs.State.{LockState, Holders, IsLegal, owner_order, mode_of, nobody_holds, fits, is_exhausted}
use Rattle.lock_core.specs.declared.partings.Parting.{Parting}
use Rattle.lock_core.specs.Turns.{generation_after, held_by, served_from, served, settled, without, waited_by, reopened, claims_of, greatest_delay, delay_of, closed_for, is_abandoned, is_of_client, is_nobody, lapsed, lapse_of}
use Rattle.lock_core.proofs.Legal.{held_legal, left_legal}
use Rattle.lock_core.proofs.Generations.{rise_of, settled_rises}
use Rattle.over_core.specs.Kept.{closing_fits}
use Rattle.lock_core.specs.declared.partings.Parting.TheVariants as partings

both_equal : (a b : Ordering) → ordering_then a b ≡ Equal → (a ≡ Equal) × (b ≡ Equal)
both_equal Less b e = absurd cc
both_equal Equal b e = (refl, e)
both_equal Greater b e = absurd cc

pub exact_owner : CmpEqualImpliesEq owner_order
exact_owner x y h =
    let t = both_equal (nat_cmp x.client y.client) (nat_cmp x.handle y.handle) h in
    let c = exact_unsigned x.client y.client t.0 in
    let n = exact_unsigned x.handle y.handle t.1 in
    λ j. record { client = c j; handle = n j }

pub owner_total : IsTotalOrder owner_order
owner_total = then_total (on_total (λ (o : Owner). o.client) nat_cmp_total) (on_total (λ (o : Owner). o.handle) nat_cmp_total)

-- its holders pass one test, its waiters another, and all else of it is in order
pub record IsFit (holds : Owner → Hold → Bool) (waits : Claim → Bool) (lock : LockState) : Type 0 where
  pub legal : IsLegal lock
  pub holders : list_all (λ entry. holds entry.0 entry.1) lock.holders ≡ true
  pub in_order : IsStrictlySortedBy owner_order (keys_of lock.holders)
  pub waiters : list_all waits lock.waiters ≡ true
  pub closing : closing_fits lock.closed ≡ true

all_push : {X : Type 0} (p : X → Bool) (xs : List X) (x : X) → list_all p xs ≡ true → p x ≡ true → list_all p (xs ++ x ∷ []) ≡ true
all_push p [] x h new = and_from (p x) true new refl
all_push p (y ∷ ys) x h new = let t = and_parts (p y) (list_all p ys) h in and_from (p y) (list_all p (ys ++ x ∷ [])) t.0 (all_push p ys x t.1 new)

-- whoever waits for it, it is legal
legal_awaited : (lock : LockState) (waiters : List Claim) → IsLegal lock → IsLegal (record lock { waiters = waiters })
legal_awaited lock waiters h = record { holders = h.holders; closed = h.closed; held = h.held; generation = h.generation }

none_of_limit : (a b limit : ℕ) → nat_le a limit ≡ true → nat_le b limit ≡ true → nat_le (max a b) limit ≡ true
none_of_limit a b limit h k = grind (arith, nat_tests)

greatest_within : (limit first : ℕ) (delays : List ℕ) → nat_le first limit ≡ true → list_all (λ d. nat_le d limit) delays ≡ true → nat_le (fold max first delays) limit ≡ true
greatest_within limit first [] h all = h
greatest_within limit first (d ∷ ds) h all =
    let t = and_parts (nat_le d limit) (list_all (λ x. nat_le x limit) ds) all in
    greatest_within limit (max first d) ds (none_of_limit first d limit h t.0) t.1

module _ (holds : Owner → Hold → Bool) (waits : Claim → Bool) where
  -- with other waiters that pass
  pub awaited_fit : (lock : LockState) (waiters : List Claim) → list_all waits waiters ≡ true → IsFit holds waits lock → IsFit holds waits (record lock { waiters = waiters })
  awaited_fit lock waiters all h = record { legal = legal_awaited lock waiters h.legal; holders = h.holders; in_order = h.in_order; waiters = all; closing = h.closing }

  pub waited_fit : (lock : LockState) (claim : Claim) → waits claim ≡ true → IsFit holds waits lock → IsFit holds waits (waited_by lock claim)
  waited_fit lock claim new h = awaited_fit lock (lock.waiters ++ claim ∷ []) (all_push waits lock.waiters claim h.waiters new) h

  -- one more holder
  pub held_fit : (lock : LockState) (claim : Claim) → fits lock claim ≡ true → holds claim.owner claim.hold ≡ true → IsFit holds waits lock → IsFit holds waits (held_by lock claim)
  held_fit lock claim fit new h = record {
    legal = held_legal lock.generation (generation_after lock.generation (mode_of lock.holders)) lock.holders (insert_entry owner_order lock.holders claim.owner claim.hold) lock.waiters lock.closed claim h.legal fit refl refl;
    holders = all_put owner_order exact_owner (λ entry. holds entry.0 entry.1) lock.holders claim.owner claim.hold h.holders new;
    in_order = sorted_put owner_order owner_total lock.holders claim.owner claim.hold h.in_order;
    waiters = h.waiters;
    closing = h.closing;
  }

  pub opened_fit : (lock : LockState) → IsFit holds waits lock → IsFit holds waits (record lock { closed = None })
  opened_fit lock h = record {
    legal = record { holders = h.legal.holders; closed = refl; held = h.legal.held; generation = h.legal.generation };
    holders = h.holders;
    in_order = h.in_order;
    waiters = h.waiters;
    closing = refl;
  }

  pub shut_fit : (lock : LockState) (now delay : ℕ) → nobody_holds lock ≡ true → nat_le delay lock_delay_limit ≡ true → IsFit holds waits lock → IsFit holds waits (record lock { closed = Some (record { from = now; delay = delay }) })
  shut_fit lock now delay nobody within h = record {
    legal = record { holders = h.legal.holders; closed = nobody; held = h.legal.held; generation = h.legal.generation };
    holders = h.holders;
    in_order = h.in_order;
    waiters = h.waiters;
    closing = within;
  }

  -- ---- turns, where who waits may hold it

  module _ (may : (claim : Claim) → waits claim ≡ true → holds claim.owner claim.hold ≡ true) where
    served_fit : (lock : LockState) (granted waiters : List Claim) → list_all waits waiters ≡ true → IsFit holds waits lock → IsFit holds waits (served_from lock granted waiters).lock
    served_fit lock granted [] all h = h
    served_fit lock granted (first ∷ rest) all h =
        let t = and_parts (waits first) (list_all waits rest) all in
        (elim (fits lock first) as (λ b. fits lock first ≡ b → IsFit holds waits (cond b (served_from (held_by lock first) (granted ++ first ∷ []) rest) (record { lock = record lock { waiters = first ∷ rest }; granted = granted; exhausted = [] })).lock) [
          | true ↦ (λ fit. served_fit (held_by lock first) (granted ++ first ∷ []) rest t.1 (held_fit lock first fit (may first t.0) h))
          | false ↦ (λ fit. awaited_fit lock (first ∷ rest) all h)
        ]) refl

    pub settled_fit : (lock : LockState) → IsFit holds waits lock → IsFit holds waits (settled lock).lock
    settled_fit lock h =
        (elim (is_exhausted lock) as (λ b. IsFit holds waits (cond b (record { lock = record lock { waiters = [] }; granted = []; exhausted = lock.waiters }) (served lock)).lock) [
          | true ↦ awaited_fit lock [] refl h
          | false ↦ served_fit (record lock { waiters = [] }) [] lock.waiters h.waiters (awaited_fit lock [] refl h)
        ])

    pub reopened_fit : (lock : LockState) → IsFit holds waits lock → IsFit holds waits (reopened lock).lock
    reopened_fit lock h = settled_fit (record lock { closed = None }) (opened_fit lock h)

    closed_for_fit : (lock : LockState) (now delay : ℕ) → nobody_holds lock ≡ true → nat_le delay lock_delay_limit ≡ true → IsFit holds waits lock → IsFit holds waits (closed_for lock now delay).lock
    closed_for_fit lock now delay nobody within h =
        (elim (delay == 0) as (λ b. IsFit holds waits (cond b (settled lock) (record { lock = record lock { closed = Some (record { from = now; delay = delay }) }; granted = []; exhausted = [] })).lock) [
          | true ↦ settled_fit lock h
          | false ↦ shut_fit lock now delay nobody within h
        ])

    pub lapse_fit : (parting : Parting) (instance : ℕ) (ended : List Claim) (left : LockState) (now : ℕ) → nat_le (delay_of parting ended) lock_delay_limit ≡ true → IsFit holds waits left → IsFit holds waits (lapse_of parting instance ended left now).turn.lock
    lapse_fit parting instance ended left now within h =
        (elim (is_abandoned ended left) as (λ b. is_abandoned ended left ≡ b → IsFit holds waits (cond b (closed_for left now (delay_of parting ended)) (settled left)).lock) [
          | true ↦ (λ c. closed_for_fit left now (delay_of parting ended) (and_parts (not (is_nobody ended)) (nobody_holds left) c).1 within h)
          | false ↦ (λ c. settled_fit left h)
        ]) refl

-- those who leave are gone, and the others may pass other tests
pub without_fit : (holds stays : Owner → Hold → Bool) (waits awaits : Claim → Bool) (leaves : Owner → Bool) (lock : LockState) → ((entry : Owner × Hold) → not (leaves entry.0) ≡ true → holds entry.0 entry.1 ≡ true → stays entry.0 entry.1 ≡ true)
    → ((claim : Claim) → not (leaves claim.owner) ≡ true → waits claim ≡ true → awaits claim ≡ true) → IsFit holds waits lock → IsFit stays awaits (without leaves lock)
without_fit holds stays waits awaits leaves lock keeps waits_on h = record {
  legal = left_legal lock.generation lock.holders (filter (λ entry. not (leaves entry.0)) lock.holders) lock.waiters (filter (λ claim. not (leaves claim.owner)) lock.waiters) lock.closed (λ entry. not (leaves entry.0)) h.legal refl;
  holders = all_let_through (λ (entry : Owner × Hold). not (leaves entry.0)) (λ entry. holds entry.0 entry.1) (λ entry. stays entry.0 entry.1) lock.holders keeps h.holders;
  in_order = sorted_kept owner_order (λ (entry : Owner × Hold). not (leaves entry.0)) lock.holders h.in_order;
  waiters = all_let_through (λ (claim : Claim). not (leaves claim.owner)) waits awaits lock.waiters waits_on h.waiters;
  closing = h.closing;
}

-- other tests that each passes
pub refit : (holds stays : Owner → Hold → Bool) (waits awaits : Claim → Bool) (lock : LockState) → ((owner : Owner) (hold : Hold) → holds owner hold ≡ true → stays owner hold ≡ true) → ((claim : Claim) → waits claim ≡ true → awaits claim ≡ true) → IsFit holds waits lock → IsFit stays awaits lock
refit holds stays waits awaits lock keeps waits_on h = record {
  legal = h.legal;
  holders = all_more (λ (entry : Owner × Hold). holds entry.0 entry.1) (λ entry. stays entry.0 entry.1) lock.holders (λ entry is. keeps entry.0 entry.1 is) h.holders;
  in_order = h.in_order;
  waiters = all_more waits awaits lock.waiters waits_on h.waiters;
  closing = h.closing;
}

-- the delays of what a client holds are within the limit
delays_within : (limit client : ℕ) (holders : Holders) → list_all (λ (entry : Owner × Hold). nat_le entry.1.delay limit) holders ≡ true → list_all (λ d. nat_le d limit) (map (λ (claim : Claim). claim.hold.delay) (claims_of client holders)) ≡ true
delays_within limit client [] h = refl
delays_within limit client (e ∷ es) h =
    let t = and_parts (nat_le e.1.delay limit) (list_all (λ (entry : Owner × Hold). nat_le entry.1.delay limit) es) h in
    let rest = delays_within limit client es t.1 in
    let mine : List Claim → Bool = λ claims. list_all (λ d. nat_le d limit) (map (λ (claim : Claim). claim.hold.delay) claims) in
    (elim (is_of_client client e.0) as (λ b. mine (map (λ (entry : Owner × Hold). record { owner = entry.0; hold = entry.1 }) (cond b (e ∷ filter (λ (entry : Owner × Hold). is_of_client client entry.0) es) (filter (λ (entry : Owner × Hold). is_of_client client entry.0) es))) ≡ true) [
      | true ↦ and_from (nat_le e.1.delay limit) (mine (claims_of client es)) t.0 rest
      | false ↦ rest
    ])

pub greatest_fits : (holds : Owner → Hold → Bool) (client : ℕ) (holders : Holders) → ((owner : Owner) (hold : Hold) → holds owner hold ≡ true → nat_le hold.delay lock_delay_limit ≡ true) → list_all (λ entry. holds entry.0 entry.1) holders ≡ true → nat_le (greatest_delay (claims_of client holders)) lock_delay_limit ≡ true
greatest_fits holds client holders short h =
    greatest_within lock_delay_limit 0 (map (λ (claim : Claim). claim.hold.delay) (claims_of client holders)) refl
    (delays_within lock_delay_limit client holders (all_more (λ (entry : Owner × Hold). holds entry.0 entry.1) (λ entry. nat_le entry.1.delay lock_delay_limit) holders (λ entry is. short entry.0 entry.1 is) h))

pub delay_fits : (parting : Parting) (holds : Owner → Hold → Bool) (client : ℕ) (holders : Holders) → ((owner : Owner) (hold : Hold) → holds owner hold ≡ true → nat_le hold.delay lock_delay_limit ≡ true) → list_all (λ entry. holds entry.0 entry.1) holders ≡ true → nat_le (delay_of parting (claims_of client holders)) lock_delay_limit ≡ true
delay_fits partings.Expiry holds client holders short h = greatest_fits holds client holders short h
delay_fits partings.Leave holds client holders short h = refl

-- ---- generations rise

more : (a b c : ℕ) → a ≡ b + c → b ≤ a
more a b c h = omega (arith, h)

pub settled_higher : (lock : LockState) → lock.generation ≤ (settled lock).lock.generation
settled_higher lock = more (settled lock).lock.generation lock.generation (rise_of (nobody_holds lock) (settled lock).granted) (settled_rises lock)

higher_after : (generation : ℕ) (m : Option _) → generation ≤ generation_after generation m
higher_after generation None = omega arith
higher_after generation (Some mode) = omega arith

pub held_higher : (lock : LockState) (claim : Claim) → lock.generation ≤ (held_by lock claim).generation
held_higher lock claim = higher_after lock.generation (mode_of lock.holders)

closed_higher : (lock : LockState) (now delay : ℕ) → lock.generation ≤ (closed_for lock now delay).lock.generation
closed_higher lock now delay =
    (elim (delay == 0) as (λ b. lock.generation ≤ (cond b (settled lock) (record { lock = record lock { closed = Some (record { from = now; delay = delay }) }; granted = []; exhausted = [] })).lock.generation) [
      | true ↦ settled_higher lock
      | false ↦ omega arith
    ])

pub lapse_higher : (parting : Parting) (instance : ℕ) (lock : LockState) (client now : ℕ) → lock.generation ≤ (lapsed parting instance lock client now).turn.lock.generation
lapse_higher parting instance lock client now =
    let left : LockState = without (is_of_client client) lock in
    let ended : List Claim = claims_of client lock.holders in
    (elim (is_abandoned ended left) as (λ b. left.generation ≤ (cond b (closed_for left now (delay_of parting ended)) (settled left)).lock.generation) [
      | true ↦ closed_higher left now (delay_of parting ended)
      | false ↦ settled_higher left
    ])

-- ---- whoever waited got it, was turned away, or waits still

-- all of a turn's waiters, in order
abbrev pub turn_waiters : Turn → List Claim
turn_waiters turn = turn.granted ++ (turn.exhausted ++ turn.lock.waiters)

served_waiters : (lock : LockState) (granted waiters : List Claim) → lock.waiters ≡ [] → turn_waiters (served_from lock granted waiters) ≡ granted ++ waiters
served_waiters lock granted [] none = ap (λ ws. granted ++ ws) none
served_waiters lock granted (first ∷ rest) none =
    (elim (fits lock first) as (λ b. turn_waiters (cond b (served_from (held_by lock first) (granted ++ first ∷ []) rest) (record { lock = record lock { waiters = first ∷ rest }; granted = granted; exhausted = [] })) ≡ granted ++ first ∷ rest) [
      | true ↦ served_waiters (held_by lock first) (granted ++ first ∷ []) rest none ∙ append_assoc granted (first ∷ []) rest
      | false ↦ refl
    ])

append_none : {X : Type 0} (xs : List X) → xs ++ [] ≡ xs
append_none [] = refl
append_none {X} (x ∷ xs) = ap (λ (ys : List X). x ∷ ys) (append_none xs)

pub settled_waiters : (lock : LockState) → turn_waiters (settled lock) ≡ lock.waiters
settled_waiters lock =
    (elim (is_exhausted lock) as (λ b. turn_waiters (cond b (record { lock = record lock { waiters = [] }; granted = []; exhausted = lock.waiters }) (served lock)) ≡ lock.waiters) [
      | true ↦ append_none lock.waiters
      | false ↦ served_waiters (record lock { waiters = [] }) [] lock.waiters refl
    ])

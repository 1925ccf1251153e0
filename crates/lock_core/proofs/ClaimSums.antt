-- How many locks a client holds or waits for, by those that may concern it.
use Rattle.std.proofs.Common.{◌≡◌, ℕ, ◌+◌, List, [], ◌∷◌, Bool, true, false, cond, Option, Some, None, refl, sym, ap, subst, ◌∙◌, arith, map}
use Rattle.std.specs.Prelude.{◌||◌, unwrap_or, filter}
use Rattle.std.specs.Option.{option_map_or}
use Rattle.std.specs.List.{sum, count_by, list_any}
use Rattle.std.specs.List.Sorted.{IsStrictlySortedBy}
use Rattle.std.specs.Map.{keys_of, values_of, lookup}
use Rattle.std.specs.Ordering.{nat_cmp}
use Rattle.std.specs.BTreeMap.{is_at}
use Rattle.std.proofs.lemmas.List.Sums.{sum_by-cons, sum_by-append}
use Rattle.collections.specs.Timers.{has_key}
use Rattle.lock_core.specs.State.{LockState, lock_of}
use Rattle.lock_core.specs.Turns.{is_of_client, any_holds, any_waits, concerns}
use Rattle.lock_core.specs.Locks.{LockTable, lock_at}
use Rattle.lock_core.specs.Claimants.{ClaimantState, has, AreListed}
use Rattle.lock_core.specs.Counted.{claims_in, claim_count, claims_among}
use Rattle.lock_core.proofs.Gathered.{at_key, among, out, gathered}

abbrev one_where : Bool → ℕ
one_where b = cond b 1 0

-- where none passes a test, none is counted
none_by : {X : Type 0} (p : X → Bool) (xs : List X) → list_any p xs ≡ false → count_by p xs ≡ 0
none_by p [] h = refl
none_by {X} p (x ∷ xs) h =
    (elim (p x) as (λ b. p x ≡ b → (b || list_any p xs) ≡ false → count_by p (x ∷ xs) ≡ 0) [
      | true ↦ (λ e k. cc)
      | false ↦ (λ e k.
          let one : one_where (p x) ≡ 0 = ap one_where e in
          let rest : count_by p xs ≡ 0 = none_by p xs k in
          omega (arith, sum_by-cons (λ y. one_where (p y)) x xs, one, rest))
    ]) refl h

or_none : (a b : Bool) → (a || b) ≡ false → (a ≡ false) × (b ≡ false)
or_none true b h = cc
or_none false b h = (refl, h)

-- a lock that doesn't concern the client has no claim of it
none_in : (client : ℕ) (lock : LockState) → concerns client lock ≡ false → claims_in client lock ≡ 0
none_in client lock h =
    let both = or_none (any_holds (is_of_client client) lock) (any_waits (is_of_client client) lock) h in
    let held = none_by (λ entry. is_of_client client entry.0) lock.holders both.0 in
    let awaited = none_by (λ claim. is_of_client client claim.owner) lock.waiters both.1 in
    omega (arith, held, awaited)

module _ (client : ℕ) where
  abbrev number : ℕ → LockState → ℕ
  number instance lock = claims_in client lock

  by_test : (lock : LockState) → sum (cond (concerns client lock) (claims_in client lock ∷ []) []) ≡ claims_in client lock
  by_test lock =
      (elim (concerns client lock) as (λ b. concerns client lock ≡ b → sum (cond b (claims_in client lock ∷ []) []) ≡ claims_in client lock) [
        | true ↦ (λ h. omega arith)
        | false ↦ (λ h. sym (none_in client lock h))
      ]) refl

  at_lock : (o : Option LockState) → sum (option_map_or (λ lock. cond (concerns client lock) (claims_in client lock ∷ []) []) o []) ≡ claims_in client (unwrap_or o (lock_of 0))
  at_lock None = refl
  at_lock (Some lock) = by_test lock

  sum_among : (locks : LockTable) (keys : List ℕ) → sum (among client number locks keys) ≡ claims_among client locks keys
  sum_among locks [] = refl
  sum_among locks (k ∷ ks) =
      let parts = sum_by-append (λ n. n) (at_key client number locks k) (among client number locks ks) in
      let first = at_lock (lookup (is_at (nat_cmp k)) locks) in
      let rest = sum_among locks ks in
      let whole = sum_by-cons (λ instance. claims_in client (lock_at locks instance)) k ks in
      parts ∙ (ap (λ n. n + sum (among client number locks ks)) first ∙ (ap (λ n. claims_in client (lock_at locks k) + n) rest ∙ sym whole))

  sum_out : (locks : LockTable) → sum (out client number locks) ≡ claim_count client locks
  sum_out [] = refl
  sum_out (e ∷ es) =
      (elim (concerns client e.1) as (λ b. concerns client e.1 ≡ b → sum (map (λ d. claims_in client d.1) (cond b (e ∷ filter (λ d. concerns client d.1) es) (filter (λ d. concerns client d.1) es))) ≡ claim_count client (e ∷ es)) [
        | true ↦ (λ h. sum_by-cons (λ n. n) (claims_in client e.1) (out client number es) ∙ (ap (λ n. claims_in client e.1 + n) (sum_out es) ∙ sym (sum_by-cons (claims_in client) e.1 (values_of es))))
        | false ↦ (λ h. let none = none_in client e.1 h in let rest = sum_out es in let whole = sum_by-cons (claims_in client) e.1 (values_of es) in rest ∙ (omega (arith, none) ∙ sym whole))
      ]) refl

-- where each lock that may concern the client is among these, its claims on them are all that it has
pub all_counted : (client : ℕ) (view locks : LockTable) (claimants : ClaimantState) (keys : List ℕ) → view ≡ locks → AreListed claimants view → IsStrictlySortedBy nat_cmp (keys_of view) → IsStrictlySortedBy nat_cmp keys
    → ((i : ℕ) → has claimants client i ≡ true → has_key keys i ≡ true) → claims_among client locks keys ≡ claim_count client locks
all_counted client view locks claimants keys same listed sorted ordered found =
    let P : LockTable → Type 0 = λ l. claims_among client l keys ≡ claim_count client l in
    subst P same
    (sym (sum_among client view keys) ∙ (ap sum (gathered client (λ instance lock. claims_in client lock) view sorted keys ordered (λ q h. found q (listed.each client q h))) ∙ sum_out client view))

-- How many locks a client has by a master and by its rows.
use Rattle.std.proofs.Common.{◌≡◌, ℕ, ◌+◌, ◌≤◌, List, [], ◌∷◌, Bool, true, false, cond, Option, Some, None, refl, sym, ap, subst, ◌∙◌, arith}
use Rattle.std.specs.Prelude.{◌==◌, ◌&&◌, not, nat_le, filter, fold}
use Rattle.std.specs.List.{count_by}
use Rattle.std.specs.List.Sorted.{IsStrictlySortedBy}
use Rattle.std.specs.Map.{keys_of, values_of}
use Rattle.std.specs.BTreeMap.{insert_entry}
use Rattle.std.specs.Ordering.{nat_cmp}
use Rattle.std.specs.Cmp.{nat_cmp_total}
use Rattle.std.proofs.lemmas.Bool.{eqb-true}
use Rattle.std.proofs.lemmas.Bool.Decides.{nat_tests}
use Rattle.std.proofs.lemmas.List.Sums.{sum_by-cons, sum_by-append}
use Rattle.node_core.specs.Limits.{number_limit}
use Rattle.node_core.specs.declared.kinds.LockMode.{LockMode}
use Rattle.node_core.specs.declared.kinds.LockMode.TheVariants as modes
use Rattle.rows_cell.specs.declared.keys.LockKey.{LockKey}
use Rattle.rows_cell.specs.declared.tables.LockRow.{LockRow}
use Rattle.rows_cell.specs.declared.tables.LockState as stored
use Rattle.rows_cell.specs.declared.tables.LockState.TheVariants.{Lapsed, Exclusive, Shared}
use Rattle.rows_cell.specs.declared.tables.Rows.{Rows}
use Rattle.rows_cell.specs.declared.tables.StoredNode.{StoredNode}
use Rattle.rows_cell.specs.LockRows.{is_holding}
use Rattle.rows_cell.specs.Rows.{StoredLocks}
use Rattle.rows_cell.proofs.EntriesInOrder.{sorted_put}
use Rattle.lock_core.specs.declared.claims.Claim.{Claim}
use Rattle.lock_core.specs.declared.claims.Closing.{Closing}
use Rattle.lock_core.specs.declared.claims.Hold.{Hold}
use Rattle.lock_core.specs.declared.claims.Owner.{Owner}
use Rattle.lock_core.specs.State.{LockState, lock_of, owner_order, mode_of, nobody_holds}
use Rattle.lock_core.specs.Turns.{is_of_client}
use Rattle.lock_core.specs.Locks.{LockTable, lock_at, with_lock, may_stand, with_holder}
use Rattle.lock_core.specs.Counted.{claims_in, claim_count}
use Rattle.lock_core.proofs.ClaimTurns.{one_where, counted_lock, counted_held}
use Rattle.master_parts.specs.Locks.{stored_mode, holder_key, holder_row, holder_rows, closing_rows, lock_rows, with_generation, holder_of, locked_as, with_row, generations_of, locks_of}
use Rattle.over_core.specs.Kept.{AreLockRows}
use Rattle.over_core.proofs.Limited.{at_head, at_tail}
use Rattle.world_cell.specs.Limits.{is_held_by, locks_in}

-- ---- a master that comes up has no more than the rows

abbrev no_locks : LockTable
no_locks = []

module _ (client : ℕ) where
  abbrev held : LockKey × LockRow → Bool
  held entry = is_held_by client entry

  nothing_more : (lock other : LockState) → claims_in client other ≡ claims_in client lock → claims_in client other ≤ claims_in client lock + 0
  nothing_more lock other same = omega (arith, same)

  holder_counted : (lock : LockState) (claim : Claim) → claims_in client (with_holder lock claim) ≤ claims_in client lock + one_where (is_of_client client claim.owner)
  holder_counted lock claim =
      let more = counted_held client lock claim in
      elim (may_stand lock claim (mode_of lock.holders)) as (λ b. claims_in client (cond b (record lock { holders = insert_entry owner_order lock.holders claim.owner claim.hold }) lock) ≤ claims_in client lock + one_where (is_of_client client claim.owner)) [
        | true ↦ more
        | false ↦ omega arith
      ]

  locked_counted : (lock : LockState) (now : ℕ) (key : LockKey) (delay : ℕ) (state : stored.LockState)
      → claims_in client (locked_as lock now key delay state) ≤ claims_in client lock + one_where (held (key, record { state = state; delay = delay }))
  locked_counted lock now key delay Lapsed =
      elim (nobody_holds lock) as (λ b. claims_in client (cond b (record lock { closed = Some (record { from = now; delay = delay }) }) lock) ≤ claims_in client lock + 0) [
        | true ↦ omega arith
        | false ↦ omega arith
      ]
  locked_counted lock now key delay Exclusive = holder_counted lock (holder_of key modes.Exclusive delay)
  locked_counted lock now key delay Shared = holder_counted lock (holder_of key modes.Shared delay)

  rows_counted : (now : ℕ) (entries : StoredLocks) (locks : LockTable) → IsStrictlySortedBy nat_cmp (keys_of locks) → claim_count client (fold (with_row now) locks entries) ≤ claim_count client locks + count_by held entries
  rows_counted now [] locks sorted = omega arith
  rows_counted now (entry ∷ entries) locks sorted =
      let was : LockState = lock_at locks entry.0.instance in
      let lock : LockState = locked_as was now entry.0 entry.1.delay entry.1.state in
      let parts = counted_lock client locks entry.0.instance lock sorted in
      let one = locked_counted was now entry.0 entry.1.delay entry.1.state in
      let rest = rows_counted now entries (with_lock locks entry.0.instance lock) (sorted_put nat_cmp nat_cmp_total locks entry.0.instance lock sorted) in
      let whole = sum_by-cons (λ (e : LockKey × LockRow). one_where (held e)) entry entries in
      omega (arith, parts, one, rest, whole)

  -- generations are no claims
  pub generations_counted : (nodes : List (List ℕ × StoredNode)) (locks : LockTable) → IsStrictlySortedBy nat_cmp (keys_of locks)
      → IsStrictlySortedBy nat_cmp (keys_of (fold with_generation locks nodes)) × (claim_count client (fold with_generation locks nodes) ≤ claim_count client locks)
  generations_counted [] locks sorted = (sorted, omega arith)
  generations_counted (entry ∷ nodes) locks sorted =
      let n = entry.1.node.instance in
      let lock = lock_of entry.1.lock_generation in
      let IsCounted : LockTable → Type 0 = λ ls. IsStrictlySortedBy nat_cmp (keys_of (fold with_generation ls nodes)) × (claim_count client (fold with_generation ls nodes) ≤ claim_count client locks) in
      elim (nat_le entry.1.lock_generation number_limit) as (λ b. IsCounted (cond b (with_lock locks n lock) locks)) [
        | true ↦ (
            let parts = counted_lock client locks n lock sorted in
            let rest = generations_counted nodes (with_lock locks n lock) (sorted_put nat_cmp nat_cmp_total locks n lock sorted) in
            let fewer_than = rest.1 in
            (rest.0, omega (arith, parts, fewer_than)))
        | false ↦ generations_counted nodes locks sorted
      ]

  none_sorted : IsStrictlySortedBy nat_cmp (keys_of no_locks)
  unfolding IsStrictlySortedBy
  none_sorted = tt

  pub up_counted : (rows : Rows) (now : ℕ) → claim_count client (locks_of rows now) ≤ locks_in client rows
  up_counted rows now =
      let from = generations_counted rows.nodes no_locks none_sorted in
      let none = from.1 in
      let all = rows_counted now rows.locks (generations_of rows) from.0 in
      omega (arith, none, all)

  -- ---- the rows tell of no more than the master has

  count_cons : (entry : LockKey × LockRow) (entries : StoredLocks) → count_by held (entry ∷ entries) ≡ one_where (held entry) + count_by held entries
  count_cons entry entries = sum_by-cons (λ (e : LockKey × LockRow). one_where (held e)) entry entries

  abbrev is_on : ℕ → LockKey × LockRow → Bool
  is_on n entry = entry.0.instance == n

  abbrev is_off : ℕ → LockKey × LockRow → Bool
  is_off n entry = not (is_on n entry)

  -- those of one lock, and all others
  split : (n : ℕ) (entries : StoredLocks) → count_by held entries ≡ count_by held (filter (is_on n) entries) + count_by held (filter (is_off n) entries)
  split n [] = refl
  split n (entry ∷ entries) =
      let rest = split n entries in
      let whole = count_cons entry entries in
      let here = count_cons entry (filter (is_on n) entries) in
      let apart = count_cons entry (filter (is_off n) entries) in
      elim (is_on n entry) as (λ b. count_by held (entry ∷ entries) ≡ count_by held (cond b (entry ∷ filter (is_on n) entries) (filter (is_on n) entries)) + count_by held (cond (not b) (entry ∷ filter (is_off n) entries) (filter (is_off n) entries))) [
        | true ↦ omega (arith, rest, whole, here)
        | false ↦ omega (arith, rest, whole, apart)
      ]

  -- those of a lock among those of others
  fewer_on : (n m : ℕ) (entries : StoredLocks) → count_by held (filter (is_on n) (filter (is_off m) entries)) ≤ count_by held (filter (is_on n) entries)
  fewer_on n m [] = omega arith
  fewer_on n m (entry ∷ entries) =
      let rest = fewer_on n m entries in
      let few = count_cons entry (filter (is_on n) (filter (is_off m) entries)) in
      let more = count_cons entry (filter (is_on n) entries) in
      elim (is_off m entry) as (λ b. count_by held (filter (is_on n) (cond b (entry ∷ filter (is_off m) entries) (filter (is_off m) entries))) ≤ count_by held (filter (is_on n) (entry ∷ entries))) [
        | true ↦ (elim (is_on n entry) as (λ c. count_by held (cond c (entry ∷ filter (is_on n) (filter (is_off m) entries)) (filter (is_on n) (filter (is_off m) entries))) ≤ count_by held (cond c (entry ∷ filter (is_on n) entries) (filter (is_on n) entries))) [
          | true ↦ omega (arith, rest, few, more)
          | false ↦ rest
        ])
        | false ↦ (elim (is_on n entry) as (λ c. count_by held (filter (is_on n) (filter (is_off m) entries)) ≤ count_by held (cond c (entry ∷ filter (is_on n) entries) (filter (is_on n) entries))) [
          | true ↦ omega (arith, rest, more)
          | false ↦ rest
        ])
      ]

  none_on : (n : ℕ) (entries : StoredLocks) → count_by held (filter (is_on n) (filter (is_off n) entries)) ≡ 0
  none_on n [] = refl
  none_on n (entry ∷ entries) =
      (elim (is_on n entry) as (λ b. is_on n entry ≡ b → count_by held (filter (is_on n) (cond (not b) (entry ∷ filter (is_off n) entries) (filter (is_off n) entries))) ≡ 0) [
        | true ↦ (λ c. none_on n entries)
        | false ↦ (λ c. ap (λ b. count_by held (cond b (entry ∷ filter (is_on n) (filter (is_off n) entries)) (filter (is_on n) (filter (is_off n) entries)))) c ∙ none_on n entries)
      ]) refl

  itself : (n : ℕ) → (n == n) ≡ true
  itself n = grind (arith, nat_tests)

  -- where each lock has none, there is none
  none_held : (entries : StoredLocks) → ((n : ℕ) → count_by held (filter (is_on n) entries) ≤ 0) → count_by held entries ≤ 0
  none_held [] h = omega arith
  none_held (entry ∷ entries) h =
      let n = entry.0.instance in
      let whole = count_cons entry entries in
      let here = count_cons entry (filter (is_on n) entries) in
      let own : count_by held (filter (is_on n) (entry ∷ entries)) ≡ count_by held (entry ∷ filter (is_on n) entries) =
      ap (λ b. count_by held (cond b (entry ∷ filter (is_on n) entries) (filter (is_on n) entries))) (itself n) in
      let none = h n in
      let rest = none_held entries (λ m. let fewer_here = tail_on m entry entries in let all = h m in omega (arith, fewer_here, all)) in
      omega (arith, whole, here, own, none, rest)
    where
      tail_on : (m : ℕ) (e : LockKey × LockRow) (es : StoredLocks) → count_by held (filter (is_on m) es) ≤ count_by held (filter (is_on m) (e ∷ es))
      tail_on m e es =
          let more = count_cons e (filter (is_on m) es) in
          elim (is_on m e) as (λ b. count_by held (filter (is_on m) es) ≤ count_by held (cond b (e ∷ filter (is_on m) es) (filter (is_on m) es))) [
            | true ↦ omega (arith, more)
            | false ↦ omega arith
          ]

  all_held : (entries : StoredLocks) (locks : LockTable) → ((n : ℕ) → count_by held (filter (is_on n) entries) ≤ claims_in client (lock_at locks n)) → count_by held entries ≤ claim_count client locks
  all_held entries [] h = none_held entries h
  all_held entries (lock ∷ locks) h =
      let n = lock.0 in
      let parts = split n entries in
      let whole = sum_by-cons (claims_in client) lock.1 (values_of locks) in
      let P : LockState → Type 0 = λ l. count_by held (filter (is_on n) entries) ≤ claims_in client l in
      let first : count_by held (filter (is_on n) entries) ≤ claims_in client lock.1 = subst P (at_head lock locks) (h n) in
      let each : (m : ℕ) → count_by held (filter (is_on m) (filter (is_off n) entries)) ≤ claims_in client (lock_at locks m) = λ m.
      (elim (n == m) as (λ b. (n == m) ≡ b → count_by held (filter (is_on m) (filter (is_off n) entries)) ≤ claims_in client (lock_at locks m)) [
        | true ↦ (λ c.
            let Q : ℕ → Type 0 = λ i. count_by held (filter (is_on i) (filter (is_off n) entries)) ≡ 0 in
            let none : count_by held (filter (is_on m) (filter (is_off n) entries)) ≡ 0 = subst Q (eqb-true n m c) (none_on n entries) in
            omega (arith, none))
        | false ↦ (λ c.
            let here = ap (claims_in client) (at_tail lock locks m c) in
            let few = fewer_on m n entries in
            let all = h m in
            omega (arith, here, few, all))
      ]) refl
      in
      let rest = all_held (filter (is_off n) entries) locks each in
      omega (arith, parts, whole, first, rest)

  holds_mode : (mode : LockMode) → is_holding (stored_mode mode) ≡ true
  holds_mode modes.Exclusive = refl
  holds_mode modes.Shared = refl

  holders_held : (n : ℕ) (holders : List (Owner × Hold)) → count_by held (holder_rows n holders) ≡ count_by (λ (entry : Owner × Hold). is_of_client client entry.0) holders
  holders_held n [] = refl
  holders_held n (entry ∷ holders) =
      let here = count_cons (holder_key n entry.0, holder_row entry.1) (holder_rows n holders) in
      let there = sum_by-cons (λ (e : Owner × Hold). one_where (is_of_client client e.0)) entry holders in
      let one : one_where (held (holder_key n entry.0, holder_row entry.1)) ≡ one_where (is_of_client client entry.0) = ap (λ b. one_where (b && is_of_client client entry.0)) (holds_mode entry.1.mode) in
      let rest = holders_held n holders in
      omega (arith, here, there, one, rest)

  rows_held : (n : ℕ) (lock : LockState) → count_by held (lock_rows n lock) ≤ claims_in client lock
  rows_held n lock =
      let all = sum_by-append (λ (e : LockKey × LockRow). one_where (held e)) (closing_rows n lock.closed) (holder_rows n lock.holders) in
      let none = closed_held lock.closed in
      let holders = holders_held n lock.holders in
      omega (arith, all, none, holders)
    where
      closed_held : (closed : Option Closing) → count_by held (closing_rows n closed) ≡ 0
      closed_held None = refl
      closed_held (Some closing) = refl

  pub down_counted : (rows : Rows) (locks : LockTable) → AreLockRows locks rows.locks → locks_in client rows ≤ claim_count client locks
  down_counted rows locks told =
      all_held rows.locks locks (λ n.
      let P : StoredLocks → Type 0 = λ es. count_by held es ≤ claims_in client (lock_at locks n) in
      subst P (sym (told n)) (rows_held n (lock_at locks n)))

-- The edits of one lock's rows do what they say.
use Rattle.std.proofs.Common.{◌≡◌, ℕ, List, [], ◌∷◌, Bool, true, false, cond, Option, Some, None, Ordering, Less, refl, sym, ap, subst, ◌∙◌, arith}
use Rattle.std.specs.Prelude.{◌||◌, ◌==◌, not, filter, map, is_some}
use Rattle.std.specs.Option.{option_map_or, option_or}
use Rattle.std.specs.Ordering.{nat_cmp, ordering_then}
use Rattle.std.specs.List.{AllByRecursion, list_all, list_any}
use Rattle.std.specs.List.Sorted.{IsStrictlySortedBy}
use Rattle.std.specs.Cmp.{nat_cmp_total, tied_itself}
use Rattle.std.specs.Map.{keys_of, lookup, remove_entry}
use Rattle.std.specs.BTreeMap.{is_at, insert_entry}
use Rattle.std.proofs.lemmas.Bool.{and_parts, eqb-true}
use Rattle.std.proofs.lemmas.Bool.Decides.{nat_tests}
use Rattle.std.proofs.lemmas.Map.Entries.{option_filter, lookup-filter-keys}
use Rattle.collections.proofs.Entries.{eq_at, lookup_put}
use Rattle.rows_cell.specs.declared.tables.LockRow.{LockRow}
use Rattle.rows_cell.specs.declared.tables.LockState.{LockState}
use Rattle.rows_cell.specs.declared.tables.LockState.TheVariants.{Lapsed, Exclusive, Shared}
use Rattle.rows_cell.specs.declared.keys.LockKey.{LockKey}
use Rattle.rows_cell.specs.declared.tables.Rows.{Rows}
use Rattle.rows_cell.specs.declared.tables.Edit.TheVariants.{PutLock, RemoveLock}
use Rattle.rows_cell.specs.Keys.{lock_order}
use Rattle.rows_cell.specs.Rows.{StoredLocks, edited, changed_rows}
use Rattle.rows_cell.specs.Indexes.{locks_at}
use Rattle.rows_cell.specs.LockRows.{locks_off, is_state, is_row, has_key, has_entry, gone_keys, put_rows, row_edits}
use Rattle.rows_cell.proofs.EntriesInOrder.{sorted_put, sorted_kept}
use Rattle.rows_cell.proofs.PutEntries.{all_found}
use Rattle.rows_cell.proofs.SoundEnds.{changed_more, unlocked_by, unlocks, unlocked_sorted, locks_total}
use Rattle.rows_cell.proofs.SortedLookups.{exact_lock, same_lookups, found_none, lookup_gone, lookup_kept, any_key}

-- ---- rows that are put

-- the locks with these entries put
abbrev pub put_all : StoredLocks → StoredLocks → StoredLocks
put_all [] locks = locks
put_all (e ∷ es) locks = put_all es (insert_entry lock_order locks e.0 e.1)

puts : (rows : Rows) (es : StoredLocks) → changed_rows rows (map (λ e. PutLock e.0 e.1) es) ≡ record rows { locks = put_all es rows.locks }
puts rows [] = refl
puts rows (e ∷ es) = puts (edited rows (PutLock e.0 e.1)) es

all_put_sorted : (es locks : StoredLocks) → IsStrictlySortedBy lock_order (keys_of locks) → IsStrictlySortedBy lock_order (keys_of (put_all es locks))
all_put_sorted [] locks h = h
all_put_sorted (e ∷ es) locks h = all_put_sorted es (insert_entry lock_order locks e.0 e.1) (sorted_put lock_order locks_total locks e.0 e.1 h)

abbrev pub find : LockKey → StoredLocks → Option LockRow
find q locks = lookup (is_at (lock_order q)) locks

find_put_all : (es locks : StoredLocks) (q : LockKey) → IsStrictlySortedBy lock_order (keys_of es) → find q (put_all es locks) ≡ option_or (find q es) (find q locks)
unfolding IsStrictlySortedBy
find_put_all [] locks q sorted = refl
find_put_all (e ∷ es) locks q sorted =
    let at : LockKey → Bool = is_at (lock_order q) in
    find_put_all es (insert_entry lock_order locks e.0 e.1) q sorted.1
    ∙ ap (λ o. option_or (find q es) o) (lookup_put lock_order exact_lock (tied_itself locks_total) locks e.0 e.1 q)
    ∙ (elim (at e.0) as (λ b. at e.0 ≡ b → option_or (find q es) (cond b (Some e.1) (find q locks)) ≡ option_or (cond b (Some e.1) (find q es)) (find q locks)) [
      | true ↦ (λ c. ap (λ o. option_or o (Some e.1)) (found_none lock_order locks_total exact_lock q e.0 es sorted.0 c))
      | false ↦ (λ c. refl)
    ]) refl

-- ---- rows that go

cond_or : (a b : Bool) (o : Option LockRow) → cond b None (cond a None o) ≡ cond (a || b) None o
cond_or true true o = refl
cond_or true false o = refl
cond_or false b o = refl

pub find_unlocked : (keys : List LockKey) (locks : StoredLocks) (q : LockKey) → IsStrictlySortedBy lock_order (keys_of locks) → find q (unlocked_by keys locks) ≡ cond (list_any (is_at (lock_order q)) keys) None (find q locks)
find_unlocked [] locks q sorted = refl
find_unlocked (key ∷ keys) locks q sorted =
    let any : Bool = list_any (is_at (lock_order q)) keys in
    find_unlocked keys (remove_entry (is_at (lock_order key)) locks) q (unlocked_sorted (key ∷ []) locks sorted)
    ∙ ap (λ o. cond any None o) (lookup_gone lock_order locks_total exact_lock locks key q sorted)
    ∙ cond_or (is_at (lock_order q) key) any (find q locks)

-- ---- the edits of one lock's rows

-- the locks behind them
abbrev pub relocked : StoredLocks → StoredLocks → StoredLocks → StoredLocks
relocked old new locks = put_all (put_rows old new) (unlocked_by (gone_keys old new) locks)

-- nothing else changes
pub relocks : (rows : Rows) (old new : StoredLocks) → changed_rows rows (row_edits old new) ≡ record rows { locks = relocked old new rows.locks }
relocks rows old new =
    changed_more rows (map RemoveLock (gone_keys old new)) (map (λ e. PutLock e.0 e.1) (put_rows old new))
    ∙ ap (λ (r : Rows). changed_rows r (map (λ e. PutLock e.0 e.1) (put_rows old new))) (unlocks rows (gone_keys old new))
    ∙ puts (record rows { locks = unlocked_by (gone_keys old new) rows.locks }) (put_rows old new)

-- what is found, by what the new rows, the old rows and the locks had there
abbrev chosen : Option LockRow → Option LockRow → Option LockRow → Option LockRow
chosen new old lock = option_or (option_filter (λ v. not (option_map_or (λ row. is_row row v) old false)) new) (cond (is_some (option_filter (λ v. not (is_some new)) old)) None lock)

same_state : (a b : LockState) → is_state a b ≡ true → a ≡ b
same_state Lapsed Lapsed h = refl
same_state Exclusive Exclusive h = refl
same_state Shared Shared h = refl
same_state _ _ h = absurd cc

same_row : (a b : LockRow) → is_row a b ≡ true → a ≡ b
same_row a b h =
    let t = and_parts (is_state a.state b.state) (a.delay == b.delay) h in
    let s = same_state a.state b.state t.0 in
    let d = eqb-true a.delay b.delay t.1 in
    λ j. record { state = s j; delay = d j }

chosen_here : (new old : Option LockRow) → chosen new old old ≡ new
chosen_here None None = refl
chosen_here None (Some o) = refl
chosen_here (Some v) None = refl
chosen_here (Some v) (Some o) =
    (elim (is_row o v) as (λ b. is_row o v ≡ b → option_or (cond (not b) (Some v) None) (Some o) ≡ Some v) [
      | true ↦ (λ c. ap Some (same_row o v c))
      | false ↦ (λ c. refl)
    ]) refl

-- ---- what the edits leave

-- the locks after, beside those before: of one node these rows, of all others what was there
pub record HasRowsAt (instance : ℕ) (new before after : StoredLocks) : Type 0 where
  pub in_order : IsStrictlySortedBy lock_order (keys_of after)
  pub here : locks_at after instance ≡ new
  pub others : locks_off after instance ≡ locks_off before instance

opposite : (b : Bool) → b ≡ true → b ≡ false → ⊥
opposite b h k = absurd (cc)

-- what is found among the rows of one lock, and among those of all others
find_at : (locks : StoredLocks) (instance : ℕ) (q : LockKey) → find q (locks_at locks instance) ≡ cond (q.instance == instance) (find q locks) None
find_at locks instance q =
    lookup-filter-keys (is_at (lock_order q)) (λ k. k.instance == instance) (q.instance == instance)
    (λ k h. ap (λ (x : LockKey). x.instance == instance) (sym (exact_lock q k (eq_at (lock_order q k) h)))) locks

find_off : (locks : StoredLocks) (instance : ℕ) (q : LockKey) → find q (locks_off locks instance) ≡ cond (not (q.instance == instance)) (find q locks) None
find_off locks instance q =
    lookup-filter-keys (is_at (lock_order q)) (λ k. not (k.instance == instance)) (not (q.instance == instance))
    (λ k h. ap (λ (x : LockKey). not (x.instance == instance)) (sym (exact_lock q k (eq_at (lock_order q k) h)))) locks

-- rows of one lock have no keys of others
find_own : (new : StoredLocks) (instance : ℕ) (q : LockKey) → list_all (λ e. e.0.instance == instance) new ≡ true → (q.instance == instance) ≡ false → find q new ≡ None
find_own new instance q own other =
    (elim (find q new) as (λ o. find q new ≡ o → find q new ≡ None) [
      | None ↦ (λ c. c)
      | Some v ↦ (λ c. absurd (opposite (q.instance == instance) (all_found lock_order exact_lock (λ e. e.0.instance == instance) new q v own c) other))
    ]) refl

module _ (locks old new : StoredLocks) (instance : ℕ) (sorted : IsStrictlySortedBy lock_order (keys_of locks)) (are : locks_at locks instance ≡ old) (new_sorted : IsStrictlySortedBy lock_order (keys_of new)) (own : list_all (λ e. e.0.instance == instance) new ≡ true) where
  old_sorted : IsStrictlySortedBy lock_order (keys_of old)
  old_sorted = let P : StoredLocks → Type 0 = λ es. IsStrictlySortedBy lock_order (keys_of es) in subst P are (sorted_kept lock_order (λ e. e.0.instance == instance) locks sorted)

  find_old : (q : LockKey) → find q old ≡ cond (q.instance == instance) (find q locks) None
  find_old q = ap (λ es. find q es) (sym are) ∙ find_at locks instance q

  find_relocked : (q : LockKey) → find q (relocked old new locks) ≡ chosen (find q new) (find q old) (find q locks)
  find_relocked q =
      let left : StoredLocks = unlocked_by (gone_keys old new) locks in
      let none : Option LockRow = None in
      let gone : list_any (is_at (lock_order q)) (gone_keys old new) ≡ is_some (option_filter (λ v. not (is_some (find q new))) (find q old)) =
      any_key (is_at (lock_order q)) (filter (λ e. not (has_key new e.0)) old)
      ∙ ap is_some (lookup_kept lock_order locks_total exact_lock (λ e. not (has_key new e.0)) old q old_sorted) in
      find_put_all (put_rows old new) left q (sorted_kept lock_order (λ e. not (has_entry old e)) new new_sorted)
      ∙ ap (λ o. option_or o (find q left)) (lookup_kept lock_order locks_total exact_lock (λ e. not (has_entry old e)) new q new_sorted)
      ∙ ap (λ o. option_or (option_filter (λ v. not (has_entry old (q, v))) (find q new)) o) (find_unlocked (gone_keys old new) locks q sorted)
      ∙ ap (λ b. option_or (option_filter (λ v. not (has_entry old (q, v))) (find q new)) (cond b none (find q locks))) gone

  -- at the instance what is new, elsewhere what was there
  find_after : (q : LockKey) → find q (relocked old new locks) ≡ cond (q.instance == instance) (find q new) (find q locks)
  find_after q =
      let was = find_old q in
      let is = find_relocked q in
      (elim (q.instance == instance) as (λ b. (q.instance == instance) ≡ b → find q old ≡ cond b (find q locks) None → find q (relocked old new locks) ≡ cond b (find q new) (find q locks)) [
        | true ↦ (λ c k. is ∙ ap (λ o. chosen (find q new) o (find q locks)) k ∙ chosen_here (find q new) (find q locks))
        | false ↦ (λ c k. is ∙ ap (λ o. chosen (find q new) o (find q locks)) k ∙ ap (λ o. chosen o None (find q locks)) (find_own new instance q own c))
      ]) refl was

  after_sorted : IsStrictlySortedBy lock_order (keys_of (relocked old new locks))
  after_sorted = all_put_sorted (put_rows old new) (unlocked_by (gone_keys old new) locks) (unlocked_sorted (gone_keys old new) locks sorted)

  find_here : (q : LockKey) → find q (locks_at (relocked old new locks) instance) ≡ find q new
  find_here q =
      let none : Option LockRow = None in
      find_at (relocked old new locks) instance q ∙ ap (λ o. cond (q.instance == instance) o none) (find_after q)
      ∙ (elim (q.instance == instance) as (λ b. (q.instance == instance) ≡ b → cond b (cond b (find q new) (find q locks)) none ≡ find q new) [
        | true ↦ (λ c. refl)
        | false ↦ (λ c. sym (find_own new instance q own c))
      ]) refl

  find_elsewhere : (q : LockKey) → find q (locks_off (relocked old new locks) instance) ≡ find q (locks_off locks instance)
  find_elsewhere q =
      let none : Option LockRow = None in
      find_off (relocked old new locks) instance q ∙ ap (λ o. cond (not (q.instance == instance)) o none) (find_after q)
      ∙ (elim (q.instance == instance) as (λ b. cond (not b) (cond b (find q new) (find q locks)) none ≡ cond (not b) (find q locks) none) [ true ↦ refl | false ↦ refl ])
      ∙ sym (find_off locks instance q)

  -- the edits of one lock's rows do what they say
  pub relocked_rows : HasRowsAt instance new locks (relocked old new locks)
  relocked_rows =
      let after : StoredLocks = relocked old new locks in
      record {
        in_order = after_sorted;
        here = same_lookups lock_order locks_total exact_lock (locks_at after instance) new (sorted_kept lock_order (λ e. e.0.instance == instance) after after_sorted) new_sorted find_here;
        others = same_lookups lock_order locks_total exact_lock (locks_off after instance) (locks_off locks instance)
            (sorted_kept lock_order (λ e. not (e.0.instance == instance)) after after_sorted)
            (sorted_kept lock_order (λ e. not (e.0.instance == instance)) locks sorted) find_elsewhere;
      }

-- ---- the rows of another lock

between : (a i j : ℕ) → (a == j) ≡ true → (j == i) ≡ false → (a == i) ≡ false
between a i j e o = grind (arith, nat_tests)

-- the rows of one lock are among those of all others
at_of_off : (locks : StoredLocks) (instance other : ℕ) → (other == instance) ≡ false → locks_at (locks_off locks instance) other ≡ locks_at locks other
at_of_off [] instance other h = refl
at_of_off (e ∷ es) instance other h =
    let off : StoredLocks = locks_off es instance in
    let rest = at_of_off es instance other h in
    (elim (e.0.instance == other) as (λ b. (e.0.instance == other) ≡ b → locks_at (cond (not (e.0.instance == instance)) (e ∷ off) off) other ≡ cond b (e ∷ locks_at es other) (locks_at es other)) [
      | true ↦ (λ c. rw (between e.0.instance instance other c h, c) (ap (λ xs. e ∷ xs) rest))
      | false ↦ (λ c. elim (e.0.instance == instance) as (λ b. locks_at (cond (not b) (e ∷ off) off) other ≡ locks_at es other) [ true ↦ rest | false ↦ rw c rest ])
    ]) refl

pub locks_elsewhere : (before after : StoredLocks) (instance other : ℕ) → locks_off after instance ≡ locks_off before instance → (other == instance) ≡ false → locks_at after other ≡ locks_at before other
locks_elsewhere before after instance other same h =
    sym (at_of_off after instance other h) ∙ ap (λ es. locks_at es other) same ∙ at_of_off before instance other h

-- ---- rows that are made of holders in the order of their clients and handles

module _ {H V : Type 0} (instance : ℕ) (client handle : H → ℕ) (row : V → LockRow) where
  abbrev key_of : H → LockKey
  key_of h = record { instance = instance; client = client h; handle = handle h }

  abbrev order : H → H → Ordering
  order a b = ordering_then (nat_cmp (client a) (client b)) (nat_cmp (handle a) (handle b))

  abbrev made_rows : List (H × V) → StoredLocks
  made_rows es = map (λ e. (key_of e.0, row e.1)) es

  order_of_keys : (a b : H) → lock_order (key_of a) (key_of b) ≡ order a b
  order_of_keys a b = ap (λ o. ordering_then (ordering_then o (nat_cmp (client a) (client b))) (nat_cmp (handle a) (handle b))) (tied_itself nat_cmp_total instance)

  behind_made : (a : H) (es : List (H × V)) → AllByRecursion (λ b. order a b ≡ Less) (keys_of es) → AllByRecursion (λ k. lock_order (key_of a) k ≡ Less) (keys_of (made_rows es))
  behind_made a [] h = tt
  behind_made a (e ∷ es) h = (order_of_keys a e.0 ∙ h.0, behind_made a es h.1)

  pub made_in_order : (es : List (H × V)) → IsStrictlySortedBy (λ a b. ordering_then (nat_cmp (client a) (client b)) (nat_cmp (handle a) (handle b))) (keys_of es)
      → IsStrictlySortedBy lock_order (keys_of (map (λ e. (record { instance = instance; client = client e.0; handle = handle e.0 }, row e.1)) es))
  unfolding IsStrictlySortedBy
  made_in_order [] h = tt
  made_in_order (e ∷ es) h = (behind_made e.0 es h.0, made_in_order es h.1)

-- Locks that are let go, and sessions that end, leave the rows sound.
use Rattle.std.proofs.Common.{◌≡◌, ℕ, ◌+◌, ◌≤◌, suc, List, [], ◌∷◌, ◌++◌, length, Bool, true, false, cond, Some, None, refl, sym, ap, subst, ◌∙◌, arith}
use Rattle.std.specs.Prelude.{◌&&◌, ◌||◌, ◌==◌, not, nat_le, map, filter}
use Rattle.std.specs.Option.{option_map_or}
use Rattle.std.specs.Ordering.{nat_cmp, is_eq}
use Rattle.std.specs.List.{list_all, list_any}
use Rattle.std.specs.List.Sorted.{IsStrictlySortedBy}
use Rattle.std.specs.Cmp.{IsTotalOrder, nat_cmp_total, tied_itself}
use Rattle.std.specs.Map.{keys_of, lookup, remove_entry}
use Rattle.std.specs.BTreeMap.{is_at, insert_entry}
use Rattle.std.proofs.lemmas.Bool.{and_parts, and_from}
use Rattle.std.proofs.lemmas.Bool.Decides.{nat_tests}
use Rattle.std.proofs.lemmas.Cmp.{then_total, on_total}
use Rattle.std.proofs.lemmas.Map.Lookups.{CmpEqualImpliesEq, exact_unsigned}
use Rattle.collections.proofs.Entries.{lookup_put, eq_at}
use Rattle.rows_cell.specs.declared.tables.SessionRow.{SessionRow}
use Rattle.rows_cell.specs.declared.tables.LockRow.{LockRow}
use Rattle.rows_cell.specs.declared.tables.LockState.{LockState}
use Rattle.rows_cell.specs.declared.tables.LockState.TheVariants.{Lapsed, Exclusive, Shared}
use Rattle.rows_cell.specs.declared.keys.LockKey.{LockKey}
use Rattle.rows_cell.specs.declared.tables.Rows.{Rows}
use Rattle.rows_cell.specs.declared.tables.Edit.{Edit}
use Rattle.rows_cell.specs.declared.tables.Edit.TheVariants.{PutSession, RemoveLock}
use Rattle.rows_cell.specs.Keys.{lock_order}
use Rattle.rows_cell.specs.Rows.{StoredLocks, edited, changed_rows}
use Rattle.rows_cell.specs.Sound.{sound, is_number, is_live_in, holder_fits, is_shared, beside, state_fits, lock_fits}
use Rattle.rows_cell.proofs.PutEntries.{all_more, all_put}
use Rattle.rows_cell.proofs.SoundParts.{five_parts, has_instance, parts_of, sound_of}
use Rattle.rows_cell.proofs.SoundRemovals.{all_from_both, all_gone}
use Rattle.rows_cell.proofs.EntriesInOrder.{sorted_gone, gone_for_good}

-- ---- the locks beside one that stays

same_number : (n : ℕ) → (n == n) ≡ true
same_number n = grind (arith, nat_tests)

one_more : (n : ℕ) → nat_le 1 (suc n) ≡ true
one_more n = grind (arith, nat_tests)

some_more : (n : ℕ) → nat_le 1 n ≡ true → nat_le 1 (suc n) ≡ true
some_more n h = one_more n

-- a row counts among those beside it
counts_grow : (e : LockKey × LockRow) (es : StoredLocks) (key : LockKey) → nat_le 1 (length (beside es key)) ≡ true → nat_le 1 (length (beside (e ∷ es) key)) ≡ true
counts_grow e es key h =
    elim (e.0.instance == key.instance) as (λ b. nat_le 1 (length (cond b (e ∷ beside es key) (beside es key))) ≡ true) [ true ↦ one_more (length (beside es key)) | false ↦ h ]

each_counts : (locks : StoredLocks) → list_all (λ e. nat_le 1 (length (beside locks e.0))) locks ≡ true
each_counts [] = refl
each_counts (e ∷ es) =
    let own : nat_le 1 (length (beside (e ∷ es) e.0)) ≡ true = rw (same_number e.0.instance) (one_more (length (beside es e.0))) in
    and_from (nat_le 1 (length (beside (e ∷ es) e.0))) (list_all (λ x. nat_le 1 (length (beside (e ∷ es) x.0))) es) own
    (all_more (λ x. nat_le 1 (length (beside es x.0))) (λ x. nat_le 1 (length (beside (e ∷ es) x.0))) es (λ x. counts_grow e es x.0) (each_counts es))

at_most_more : (m n : ℕ) → m ≤ n → m ≤ suc n
at_most_more m n h = omega arith

both_more : (m n : ℕ) → m ≤ n → suc m ≤ suc n
both_more m n h = omega arith

itself : (n : ℕ) → n ≤ n
itself n = omega arith

kept_at_most : (keep : LockKey × LockRow → Bool) (e : LockKey × LockRow) (es : StoredLocks) → length (filter keep es) ≤ length (filter keep (e ∷ es))
kept_at_most keep e es =
    elim (keep e) as (λ b. length (filter keep es) ≤ length (cond b (e ∷ filter keep es) (filter keep es))) [
      | true ↦ at_most_more (length (filter keep es)) (length (filter keep es)) (itself (length (filter keep es)))
      | false ↦ itself (length (filter keep es))
    ]

fewer : (test : LockKey → Bool) (keep : LockKey × LockRow → Bool) (es : StoredLocks) → length (filter keep (remove_entry test es)) ≤ length (filter keep es)
fewer test keep [] = itself 0
fewer test keep (e ∷ es) =
    elim (test e.0) as (λ b. length (filter keep (cond b es (e ∷ remove_entry test es))) ≤ length (filter keep (e ∷ es))) [
      | true ↦ kept_at_most keep e es
      | false ↦ elim (keep e) as (λ b. length (cond b (e ∷ filter keep (remove_entry test es)) (filter keep (remove_entry test es))) ≤ length (cond b (e ∷ filter keep es) (filter keep es))) [
        | true ↦ both_more (length (filter keep (remove_entry test es))) (length (filter keep es)) (fewer test keep es)
        | false ↦ fewer test keep es
      ]
    ]

one_left : (m n : ℕ) → m ≤ n → nat_le 1 m ≡ true → (n == 1) ≡ true → (m == 1) ≡ true
one_left m n le some one = grind (arith, nat_tests)

shared_left : (test : LockKey → Bool) (keep p : LockKey × LockRow → Bool) (es : StoredLocks) → list_all p (filter keep es) ≡ true → list_all p (filter keep (remove_entry test es)) ≡ true
shared_left test keep p [] h = refl
shared_left test keep p (e ∷ es) h =
    let less : StoredLocks = filter keep (remove_entry test es) in
    (elim (keep e) as (λ b. list_all p (cond b (e ∷ filter keep es) (filter keep es)) ≡ true → (keep e ≡ b) → list_all p (filter keep (cond (test e.0) es (e ∷ remove_entry test es))) ≡ true) [
      | true ↦ (λ all is.
          let t = and_parts (p e) (list_all p (filter keep es)) all in
          elim (test e.0) as (λ b. list_all p (filter keep (cond b es (e ∷ remove_entry test es))) ≡ true) [
            | true ↦ t.1
            | false ↦ rw is (and_from (p e) (list_all p less) t.0 (shared_left test keep p es t.1))
          ])
      | false ↦ (λ all is.
          elim (test e.0) as (λ b. list_all p (filter keep (cond b es (e ∷ remove_entry test es))) ≡ true) [
            | true ↦ all
            | false ↦ rw is (shared_left test keep p es all)
          ])
    ]) h refl

-- ---- a lock that is let go

module _ (cell : List ℕ) (rows : Rows) (test : LockKey → Bool) where
  abbrev unlocked : Rows
  unlocked = record rows { locks = remove_entry test rows.locks }

  state_stays : (key : LockKey) (state : LockState) → nat_le 1 (length (beside unlocked.locks key)) ≡ true → state_fits rows key state ≡ true → state_fits unlocked key state ≡ true
  state_stays key Exclusive some h =
      let t = and_parts (length (beside rows.locks key) == 1) (holder_fits rows key) h in
      and_from (length (beside unlocked.locks key) == 1) (holder_fits unlocked key) (one_left (length (beside unlocked.locks key)) (length (beside rows.locks key)) (fewer test (λ e. e.0.instance == key.instance) rows.locks) some t.0) t.1
  state_stays key Shared some h =
      let t = and_parts (list_all (λ e. is_shared e.1.state) (beside rows.locks key)) (holder_fits rows key) h in
      and_from (list_all (λ e. is_shared e.1.state) (beside unlocked.locks key)) (holder_fits unlocked key) (shared_left test (λ e. e.0.instance == key.instance) (λ e. is_shared e.1.state) rows.locks t.0) t.1
  state_stays key Lapsed some h =
      let t = and_parts (length (beside rows.locks key) == 1 && key.client == 0) (key.handle == 0) h in
      let u = and_parts (length (beside rows.locks key) == 1) (key.client == 0) t.0 in
      let one = one_left (length (beside unlocked.locks key)) (length (beside rows.locks key)) (fewer test (λ e. e.0.instance == key.instance) rows.locks) some u.0 in
      and_from (length (beside unlocked.locks key) == 1 && key.client == 0) (key.handle == 0) (and_from (length (beside unlocked.locks key) == 1) (key.client == 0) one u.1) t.1

  lock_stays : (entry : LockKey × LockRow) → lock_fits rows entry ≡ true → nat_le 1 (length (beside unlocked.locks entry.0)) ≡ true → lock_fits unlocked entry ≡ true
  lock_stays entry h some =
      let t = five_parts (has_instance rows.nodes entry.0.instance) (is_number entry.0.client) (is_number entry.0.handle) (nat_le entry.1.delay 60000) (state_fits rows entry.0 entry.1.state) h in
      rw (t.0, t.1, t.2, t.3) (state_stays entry.0 entry.1.state some t.4)

  gone_lock_sound : sound cell rows ≡ true → sound cell unlocked ≡ true
  gone_lock_sound h =
      let p = parts_of cell rows h in
      sound_of cell unlocked (record {
        named = p.named;
        epoch = p.epoch;
        next = p.next;
        root = p.root;
        nodes = p.nodes;
        distinct = p.distinct;
        sessions = p.sessions;
        locks = all_from_both (lock_fits rows) (λ e. nat_le 1 (length (beside unlocked.locks e.0))) (lock_fits unlocked) unlocked.locks lock_stays
            (all_gone test (lock_fits rows) rows.locks p.locks) (each_counts unlocked.locks);
      })

-- a lock's row may go
pub unlock_sound : (cell : List ℕ) (rows : Rows) (key : LockKey) → sound cell rows ≡ true → sound cell (edited rows (RemoveLock key)) ≡ true
unlock_sound cell rows key h = gone_lock_sound cell rows (is_at (lock_order key)) h

-- ---- locks that are let go

-- each edit in turn
pub changed_more : (rows : Rows) (edits more : List Edit) → changed_rows rows (edits ++ more) ≡ changed_rows (changed_rows rows edits) more
changed_more rows [] more = refl
changed_more rows (edit ∷ edits) more = changed_more (edited rows edit) edits more

-- what is left of the rows of locks
abbrev pub unlocked_by : List LockKey → StoredLocks → StoredLocks
unlocked_by [] locks = locks
unlocked_by (key ∷ keys) locks = unlocked_by keys (remove_entry (is_at (lock_order key)) locks)

-- nothing else changes
pub unlocks : (rows : Rows) (keys : List LockKey) → changed_rows rows (map RemoveLock keys) ≡ record rows { locks = unlocked_by keys rows.locks }
unlocks rows [] = refl
unlocks rows (key ∷ keys) = unlocks (edited rows (RemoveLock key)) keys

pub unlocks_sound : (cell : List ℕ) (rows : Rows) (keys : List LockKey) → sound cell rows ≡ true → sound cell (record rows { locks = unlocked_by keys rows.locks }) ≡ true
unlocks_sound cell rows [] h = h
unlocks_sound cell rows (key ∷ keys) h = unlocks_sound cell (edited rows (RemoveLock key)) keys (unlock_sound cell rows key h)

pub unlocked_all : (p : LockKey × LockRow → Bool) (keys : List LockKey) (locks : StoredLocks) → list_all p locks ≡ true → list_all p (unlocked_by keys locks) ≡ true
unlocked_all p [] locks h = h
unlocked_all p (key ∷ keys) locks h = unlocked_all p keys (remove_entry (is_at (lock_order key)) locks) (all_gone (is_at (lock_order key)) p locks h)

pub unlocked_sorted : (keys : List LockKey) (locks : StoredLocks) → IsStrictlySortedBy lock_order (keys_of locks) → IsStrictlySortedBy lock_order (keys_of (unlocked_by keys locks))
unlocked_sorted [] locks h = h
unlocked_sorted (key ∷ keys) locks h = unlocked_sorted keys (remove_entry (is_at (lock_order key)) locks) (sorted_gone lock_order (is_at (lock_order key)) locks h)

pub locks_total : IsTotalOrder lock_order
locks_total = then_total (then_total (on_total (λ (k : LockKey). k.instance) nat_cmp_total) (on_total (λ (k : LockKey). k.client) nat_cmp_total)) (on_total (λ (k : LockKey). k.handle) nat_cmp_total)

all_true : (locks : StoredLocks) → list_all (λ e. true) locks ≡ true
all_true [] = refl
all_true (e ∷ es) = all_true es

neither : (a b : Bool) → not a ≡ true → not b ≡ true → not (a || b) ≡ true
neither false false h k = refl
neither _ _ h k = cc

-- none of the keys is left, where they were in order
pub unlocked_gone : (keys : List LockKey) (locks : StoredLocks) → IsStrictlySortedBy lock_order (keys_of locks) → list_all (λ e. not (list_any (is_at (lock_order e.0)) keys)) (unlocked_by keys locks) ≡ true
unlocked_gone [] locks h = all_true locks
unlocked_gone (key ∷ keys) locks h =
    let left : StoredLocks = remove_entry (is_at (lock_order key)) locks in
    all_from_both (λ e. not (is_at (lock_order e.0) key)) (λ e. not (list_any (is_at (lock_order e.0)) keys)) (λ e. not (list_any (is_at (lock_order e.0)) (key ∷ keys))) (unlocked_by keys left)
    (λ e here others. neither (is_at (lock_order e.0) key) (list_any (is_at (lock_order e.0)) keys) here others)
    (unlocked_all (λ e. not (is_at (lock_order e.0) key)) keys left (gone_for_good lock_order locks_total key locks h))
    (unlocked_gone keys left (sorted_gone lock_order (is_at (lock_order key)) locks h))

-- ---- a session that ends

not_both : (a b : ℕ) → (a == b) ≡ false → a ≡ b → ⊥
not_both a b h e = grind (arith, nat_tests)

free_of : (a b : Bool) → a ≡ true → not (a && b) ≡ true → b ≡ false
free_of true false is h = refl
free_of _ _ is h = cc

live_elsewhere : (rows : Rows) (client : ℕ) (session : SessionRow) (q : ℕ) → (q == client) ≡ false → is_live_in rows q ≡ true → is_live_in (record rows { sessions = insert_entry nat_cmp rows.sessions client session }) q ≡ true
live_elsewhere rows client session q other h =
    rw (lookup_put nat_cmp exact_unsigned (tied_itself nat_cmp_total) rows.sessions client session q)
    ((elim (is_at (nat_cmp q) client) as (λ b. is_at (nat_cmp q) client ≡ b → option_map_or (λ (s : SessionRow). s.live) (cond b (Some session) (lookup (is_at (nat_cmp q)) rows.sessions)) false ≡ true) [
      | true ↦ (λ c. absurd (not_both q client other (exact_unsigned q client (eq_at (nat_cmp q client) c))))
      | false ↦ (λ c. h)
    ]) refl)

-- what a client's session holds, by which states of a lock are held
abbrev pub holds : (LockState → Bool) → ℕ → LockKey × LockRow → Bool
holds held client entry = held entry.1.state && entry.0.client == client

module _ (cell : List ℕ) (rows : Rows) (client : ℕ) (session : SessionRow) (held : LockState → Bool) (exclusive : held Exclusive ≡ true) (shared : held Shared ≡ true) where
  abbrev ended_rows : Rows
  ended_rows = record rows { sessions = insert_entry nat_cmp rows.sessions client session }

  holder_stays : (key : LockKey) (state : LockState) → held state ≡ true → not (held state && key.client == client) ≡ true → holder_fits rows key ≡ true → holder_fits ended_rows key ≡ true
  holder_stays key state is free h =
      let some : Bool = list_any (λ e. e.1.node.instance == key.instance && nat_le 1 e.1.lock_generation) rows.nodes in
      let t = and_parts some (is_live_in rows key.client) h in
      let other : (key.client == client) ≡ false = free_of (held state) (key.client == client) is free in
      and_from some (is_live_in ended_rows key.client) t.0 (live_elsewhere rows client session key.client other t.1)

  state_ends : (key : LockKey) (state : LockState) → not (held state && key.client == client) ≡ true → state_fits rows key state ≡ true → state_fits ended_rows key state ≡ true
  state_ends key Exclusive free h =
      let t = and_parts (length (beside rows.locks key) == 1) (holder_fits rows key) h in
      and_from (length (beside rows.locks key) == 1) (holder_fits ended_rows key) t.0 (holder_stays key Exclusive exclusive free t.1)
  state_ends key Shared free h =
      let t = and_parts (list_all (λ e. is_shared e.1.state) (beside rows.locks key)) (holder_fits rows key) h in
      and_from (list_all (λ e. is_shared e.1.state) (beside rows.locks key)) (holder_fits ended_rows key) t.0 (holder_stays key Shared shared free t.1)
  state_ends key Lapsed free h = h

  lock_ends : (entry : LockKey × LockRow) → lock_fits rows entry ≡ true → not (holds held client entry) ≡ true → lock_fits ended_rows entry ≡ true
  lock_ends entry h free =
      let t = five_parts (has_instance rows.nodes entry.0.instance) (is_number entry.0.client) (is_number entry.0.handle) (nat_le entry.1.delay 60000) (state_fits rows entry.0 entry.1.state) h in
      rw (t.0, t.1, t.2, t.3) (state_ends entry.0 entry.1.state free t.4)

  -- a session that holds no lock may be put in any way, also as ended
  pub ended_sound : sound cell rows ≡ true → is_number client ≡ true → list_all (λ e. not (holds held client e)) rows.locks ≡ true → sound cell (edited rows (PutSession client session)) ≡ true
  ended_sound h number free =
      let p = parts_of cell rows h in
      sound_of cell ended_rows (record {
        named = p.named;
        epoch = p.epoch;
        next = p.next;
        root = p.root;
        nodes = p.nodes;
        distinct = p.distinct;
        sessions = all_put nat_cmp exact_unsigned (λ e. is_number e.0) rows.sessions client session p.sessions number;
        locks = all_from_both (lock_fits rows) (λ e. not (holds held client e)) (lock_fits ended_rows) rows.locks lock_ends p.locks free;
      })

-- Locks that are put, beside the rows after their edits.
use Rattle.std.proofs.Common.{◌≡◌, ℕ, ◌≤◌, ◌<◌, List, [], ◌∷◌, Bool, true, false, cond, Option, Some, None, refl, sym, ap, subst, ◌∙◌, arith}
use Rattle.std.specs.Prelude.{◌&&◌, ◌||◌, ◌==◌, not, nat_le, nat_eq, map, fold, unwrap_or}
use Rattle.std.specs.Option.{option_map_or, option_or}
use Rattle.std.specs.List.{AllByRecursion, list_any}
use Rattle.std.specs.List.Sorted.{IsStrictlySortedBy}
use Rattle.std.specs.Map.{keys_of, lookup}
use Rattle.std.specs.BTreeMap.{is_at}
use Rattle.std.specs.Ordering.{nat_cmp}
use Rattle.std.specs.Cmp.{nat_cmp_total, tied_itself, unsigned_tied}
use Rattle.std.proofs.lemmas.Bool.{and_parts, or_parts, eqb-true, not-true}
use Rattle.std.proofs.lemmas.Bool.Decides.{nat_tests}
use Rattle.std.proofs.lemmas.Map.Lookups.{exact_unsigned}
use Rattle.collections.proofs.Entries.{lookup_put}
use Rattle.node_core.specs.Nodes.{Nodes}
use Rattle.node_core.specs.Limits.{number_end, lock_delay_limit}
use Rattle.rows_cell.specs.declared.tables.StoredNode.{StoredNode}
use Rattle.rows_cell.specs.declared.tables.SessionRow as stored
use Rattle.rows_cell.specs.declared.tables.Rows.{Rows}
use Rattle.rows_cell.specs.Keys.{lock_order}
use Rattle.rows_cell.specs.Rows.{stored_node}
use Rattle.rows_cell.specs.Sound.{sound, is_number, is_live_in, are_distinct}
use Rattle.rows_cell.specs.Indexes.{lock_generation_in}
use Rattle.rows_cell.specs.LockRows.{LockChange, has_holder}
use Rattle.rows_cell.proofs.EntriesInOrder.{sorted_put}
use Rattle.rows_cell.proofs.PutEntries.{all_found}
use Rattle.rows_cell.proofs.SoundParts.{parts_of}
use Rattle.rows_cell.proofs.SoundGenerations.{found_by_instance}
use Rattle.rows_cell.proofs.LockChanges.{ChangeFits, ChangesFit, nodes_behind, locks_behind, new_rows_of, new_generation_of, changes_locks, changes_generations}
use Rattle.tags_cell.specs.declared.messages.outs.Reply.{Reply}
use Rattle.session_core.specs.declared.records.Session.{Session}
use Rattle.session_core.specs.Sessions.{SessionTable, session_of, is_live}
use Rattle.session_core.proofs.RowsOfSessions.{lookup-rows_of}
use Rattle.lock_core.specs.declared.claims.Owner.{Owner}
use Rattle.lock_core.specs.declared.claims.Hold.{Hold}
use Rattle.lock_core.specs.State.{LockState, IsLegal, lock_of, nobody_holds}
use Rattle.lock_core.specs.Locks.{LockTable, lock_at, with_lock}
use Rattle.master_state.specs.declared.updates.LockPut.{LockPut}
use Rattle.master_parts.specs.Locks.{lock_rows}
use Rattle.master_parts.specs.StoredSessions.{row_of, session_rows}
use Rattle.master_state.specs.Updates.{with_lock_put, new_generation, lock_change}
use Rattle.over_core.specs.Kept.{AreGenerations, AreLockRows, IsLockKept, is_idle, is_there, claim_fits, waiter_fits}
use Rattle.over_core.proofs.LockClaims.{IsFit}
use Rattle.over_core.proofs.LockRowsKept.{HolderFits, rows_in_order, rows_legal, none_holds}

-- ---- by instance

eq_turned : (a b : ℕ) → nat_eq a b ≡ (b == a)
eq_turned a b =
    (elim (b == a) as (λ c. (b == a) ≡ c → nat_eq a b ≡ c) [
      | true ↦ (λ h. grind (arith, nat_tests))
      | false ↦ (λ h. grind (arith, nat_tests))
    ]) refl

pub at_number : (n instance : ℕ) → is_at (nat_cmp n) instance ≡ (instance == n)
at_number n instance = unsigned_tied n instance ∙ eq_turned n instance

or_of_cond : {X : Type 0} (b : Bool) (x d : X) (o : Option X) → unwrap_or (cond b (Some x) o) d ≡ cond b x (unwrap_or o d)
or_of_cond true x d o = refl
or_of_cond false x d o = refl

-- the lock that was put at its instance, and all others as they were
pub lock_at_put : (locks : LockTable) (instance : ℕ) (lock : LockState) (n : ℕ) → lock_at (with_lock locks instance lock) n ≡ cond (instance == n) lock (lock_at locks n)
lock_at_put locks instance lock n =
    ap (λ o. unwrap_or o (lock_of 0)) (lookup_put nat_cmp exact_unsigned (tied_itself nat_cmp_total) locks instance lock n)
    ∙ or_of_cond (is_at (nat_cmp n) instance) lock (lock_of 0) (lookup (is_at (nat_cmp n)) locks)
    ∙ ap (λ b. cond b lock (lock_at locks n)) (at_number n instance)

-- the last lock that was put at an instance, or the one that was there
abbrev pub put_at : List LockPut → LockState → ℕ → LockState
put_at [] lock n = lock
put_at (put ∷ puts) lock n = cond (put.instance == n) put.lock (put_at puts lock n)

abbrev pub instances_of : List LockPut → List ℕ
instances_of puts = map (λ put. put.instance) puts

not_among : (puts : List LockPut) (lock : LockState) (n : ℕ) → list_any (λ m. m == n) (instances_of puts) ≡ false → put_at puts lock n ≡ lock
not_among [] lock n h = refl
not_among (put ∷ puts) lock n h =
    let t = or_parts (put.instance == n) (list_any (λ m. m == n) (instances_of puts)) h in
    ap (λ b. cond b put.lock (put_at puts lock n)) t.0 ∙ not_among puts lock n t.1

pub locks_put : (puts : List LockPut) (locks : LockTable) (n : ℕ) → are_distinct (instances_of puts) ≡ true → lock_at (fold with_lock_put locks puts) n ≡ put_at puts (lock_at locks n) n
locks_put [] locks n h = refl
locks_put (put ∷ puts) locks n h =
    let among : ℕ → Bool = λ i. list_any (λ m. m == i) (instances_of puts) in
    let t = and_parts (not (among put.instance)) (are_distinct (instances_of puts)) h in
    locks_put puts (with_lock locks put.instance put.lock) n t.1
    ∙ ap (λ lock. put_at puts lock n) (lock_at_put locks put.instance put.lock n)
    ∙ (elim (put.instance == n) as (λ b. (put.instance == n) ≡ b → put_at puts (cond b put.lock (lock_at locks n)) n ≡ cond b put.lock (put_at puts (lock_at locks n) n)) [
      | true ↦ (λ c.
          let P : ℕ → Type 0 = λ i. among i ≡ false in
          not_among puts put.lock n (subst P (eqb-true put.instance n c) (not-true (among put.instance) t.0)))
      | false ↦ (λ c. refl)
    ]) refl

pub locks_put_in_order : (puts : List LockPut) (locks : LockTable) → IsStrictlySortedBy nat_cmp (keys_of locks) → IsStrictlySortedBy nat_cmp (keys_of (fold with_lock_put locks puts))
locks_put_in_order [] locks h = h
locks_put_in_order (put ∷ puts) locks h = locks_put_in_order puts (with_lock locks put.instance put.lock) (sorted_put nat_cmp nat_cmp_total locks put.instance put.lock h)

-- ---- sessions of the rows

module _ (cell : List ℕ) (rows : Rows) (sessions : SessionTable Reply) (h : sound cell rows ≡ true) (same : session_rows sessions ≡ rows.sessions) where
  row_found : (client : ℕ) (session : Session Reply) → session_of sessions client ≡ Some session → lookup (is_at (nat_cmp client)) rows.sessions ≡ Some (row_of session)
  row_found client session found =
      let P : List (ℕ × stored.SessionRow) → Type 0 = λ es. lookup (is_at (nat_cmp client)) es ≡ Some (row_of session) in
      subst P same (lookup-rows_of row_of (is_at (nat_cmp client)) sessions.sessions session found)

  -- a live session is one of the rows, and its client's number is one of the store
  live_in_rows : (client : ℕ) → is_live sessions client ≡ true → (is_live_in rows client ≡ true) × (is_number client ≡ true)
  live_in_rows client live =
      (elim (session_of sessions client) as (λ o. session_of sessions client ≡ o → option_map_or (λ (session : Session Reply). session.live) o false ≡ true → (is_live_in rows client ≡ true) × (is_number client ≡ true)) [
        | None ↦ (λ e l. absurd cc)
        | Some session ↦ (λ e l.
            let found = row_found client session e in
            (ap (λ o. option_map_or (λ (row : stored.SessionRow). row.live) o false) found ∙ l, all_found nat_cmp exact_unsigned (λ entry. is_number entry.0) rows.sessions client (row_of session) (parts_of cell rows h).sessions found))
      ]) refl live

  pub holder_of_rows : (owner : Owner) (hold : Hold) → claim_fits sessions owner hold ≡ true → HolderFits rows owner hold
  holder_of_rows owner hold k =
      let t = and_parts (is_live sessions owner.client && is_number owner.handle) (nat_le hold.delay lock_delay_limit) k in
      let u = and_parts (is_live sessions owner.client) (is_number owner.handle) t.0 in
      let v = live_in_rows owner.client u.0 in
      record { live = v.0; client = v.1; handle = u.1; delay = t.1 }

-- ---- what is kept of a lock, in parts

pub fit_of : (nodes : Nodes) (sessions : SessionTable Reply) (instance : ℕ) (lock : LockState) → IsLockKept nodes sessions instance lock → IsFit (claim_fits sessions) (waiter_fits sessions) lock
fit_of nodes sessions instance lock k = record { legal = k.legal; holders = k.holders; in_order = k.holders_in_order; waiters = k.waiters; closing = k.closing }

pub kept_of_fit : (nodes : Nodes) (sessions : SessionTable Reply) (instance : ℕ) (lock : LockState) → (is_idle lock || is_there nodes instance) ≡ true → IsFit (claim_fits sessions) (waiter_fits sessions) lock → IsLockKept nodes sessions instance lock
kept_of_fit nodes sessions instance lock there k = record { legal = k.legal; there = there; holders = k.holders; holders_in_order = k.in_order; waiters = k.waiters; closing = k.closing }

-- ---- one lock that is put

-- its node is there, what is kept of a lock is kept of it, and its generation doesn't fall
pub record IsPut (rows : Rows) (locks : LockTable) (sessions : SessionTable Reply) (put : LockPut) : Type 0 where
  pub node : StoredNode
  pub found : stored_node rows.nodes put.name ≡ Some node
  pub instance : node.node.instance ≡ put.instance
  pub fit : IsFit (claim_fits sessions) (waiter_fits sessions) put.lock
  pub higher : (lock_at locks put.instance).generation ≤ put.lock.generation

new_number : (a b : ℕ) → b < number_end → option_map_or is_number (cond (a == b) None (Some b)) true ≡ true
new_number a b h =
    (elim (a == b) as (λ c. option_map_or is_number (cond c None (Some b)) true ≡ true) [
      | true ↦ refl
      | false ↦ grind (arith, nat_tests)
    ])

first_before : (a b : ℕ) → nat_le 1 a ≡ true → a ≤ b → option_map_or (λ g. nat_le 1 g) (cond (a == b) None (Some b)) true ≡ true
first_before a b h k =
    (elim (a == b) as (λ c. option_map_or (λ g. nat_le 1 g) (cond c None (Some b)) true ≡ true) [
      | true ↦ refl
      | false ↦ grind (arith, nat_tests)
    ])

first_after : (a b n : ℕ) → n ≡ a → nat_le 1 b ≡ true → nat_le 1 (unwrap_or (cond (a == b) None (Some b)) n) ≡ true
first_after a b n same h =
    (elim (a == b) as (λ c. (a == b) ≡ c → nat_le 1 (unwrap_or (cond c None (Some b)) n) ≡ true) [
      | true ↦ (λ c. grind (arith, nat_tests))
      | false ↦ (λ c. h)
    ]) refl

held_first : (nobody : Bool) (n : ℕ) → (nobody || nat_le 1 n) ≡ true → nobody ≡ false → nat_le 1 n ≡ true
held_first true n h k = absurd cc
held_first false n h k = h

-- where somebody holds it, it had a first generation
first_of : (instance : ℕ) (lock : LockState) → IsLegal lock → has_holder (lock_rows instance lock) ≡ true → nat_le 1 lock.generation ≡ true
first_of instance lock legal held = held_first (nobody_holds lock) lock.generation legal.held (none_holds instance lock.closed lock.holders held)

module _ (cell : List ℕ) (rows : Rows) (locks : LockTable) (sessions : SessionTable Reply) (h : sound cell rows ≡ true) (same : session_rows sessions ≡ rows.sessions) (generations : AreGenerations locks rows.nodes) (are : AreLockRows locks rows.locks) (legal : (n : ℕ) → IsLegal (lock_at locks n)) where
  own_generation : (put : LockPut) (is : IsPut rows locks sessions put) → is.node.lock_generation ≡ (lock_at locks put.instance).generation
  own_generation put is =
      generations put.instance is.node.lock_generation (ap (λ n. lock_generation_in rows.nodes n) (sym is.instance) ∙ found_by_instance rows.nodes put.name is.node is.found (parts_of cell rows h).distinct)

  put_fits : (put : LockPut) → IsPut rows locks sessions put → ChangeFits rows (lock_change locks put)
  put_fits put is =
      let old : LockState = lock_at locks put.instance in
      record {
        node = is.node;
        found = is.found;
        instance = is.instance;
        old = are put.instance;
        in_order = rows_in_order put.instance put.lock is.fit.legal is.fit.in_order;
        legal = rows_legal rows put.instance (claim_fits sessions) put.lock (holder_of_rows cell rows sessions h same) is.fit.legal is.fit.holders is.fit.closing;
        number = new_number old.generation put.lock.generation is.fit.legal.generation;
        before = λ held. first_before old.generation put.lock.generation (first_of put.instance old (legal put.instance) held) is.higher;
        after = λ held. first_after old.generation put.lock.generation is.node.lock_generation (own_generation put is) (first_of put.instance put.lock is.fit.legal held);
      }

  each_fits : (puts : List LockPut) → AllByRecursion (IsPut rows locks sessions) puts → AllByRecursion (ChangeFits rows) (map (lock_change locks) puts)
  each_fits [] all = tt
  each_fits (put ∷ puts) all = (put_fits put all.0, each_fits puts all.1)

  same_instances : (puts : List LockPut) → map (λ (c : LockChange). c.instance) (map (lock_change locks) puts) ≡ instances_of puts
  same_instances [] = refl
  same_instances (put ∷ puts) = ap (λ (ns : List ℕ). put.instance ∷ ns) (same_instances puts)

  -- the edits of locks that are put leave the rows sound
  pub puts_fit : (puts : List LockPut) → AllByRecursion (IsPut rows locks sessions) puts → are_distinct (instances_of puts) ≡ true → ChangesFit rows (map (lock_change locks) puts)
  puts_fit puts all distinct = record { each = each_fits puts all; distinct = ap are_distinct (same_instances puts) ∙ distinct }

  -- ---- what stands after them

  new_rows : (puts : List LockPut) (n : ℕ) → new_rows_of (map (lock_change locks) puts) rows.locks n ≡ lock_rows n (put_at puts (lock_at locks n) n)
  new_rows [] n = are n
  new_rows (put ∷ puts) n =
      (elim (put.instance == n) as (λ b. (put.instance == n) ≡ b → cond b (lock_rows put.instance put.lock) (new_rows_of (map (lock_change locks) puts) rows.locks n) ≡ lock_rows n (cond b put.lock (put_at puts (lock_at locks n) n))) [
        | true ↦ (λ c. ap (λ i. lock_rows i put.lock) (eqb-true put.instance n c))
        | false ↦ (λ c. new_rows puts n)
      ]) refl

  kept_generation : (b : Bool) (old new n g : ℕ) (o : Option ℕ) → (old == new) ≡ b → ((m : ℕ) → o ≡ Some m → m ≡ old) → option_or (cond b None (Some new)) o ≡ Some g → g ≡ new
  kept_generation true old new n g o e f k = f g k ∙ eqb-true old new e
  kept_generation false old new n g o e f k = cc

  new_generations : (puts : List LockPut) (n g : ℕ) → new_generation_of (map (lock_change locks) puts) rows.nodes n ≡ Some g → g ≡ (put_at puts (lock_at locks n) n).generation
  new_generations [] n g k = generations n g k
  new_generations (put ∷ puts) n g k =
      let change : Option ℕ = new_generation (lock_at locks put.instance) put.lock in
      (elim (put.instance == n) as (λ b. (put.instance == n) ≡ b → cond b (option_or change (lock_generation_in rows.nodes n)) (new_generation_of (map (lock_change locks) puts) rows.nodes n) ≡ Some g → g ≡ (cond b put.lock (put_at puts (lock_at locks n) n)).generation) [
        | true ↦ (λ c l.
            let old : LockState = lock_at locks put.instance in
            let is : put.instance ≡ n = eqb-true put.instance n c in
            let of_old : (m : ℕ) → lock_generation_in rows.nodes n ≡ Some m → m ≡ old.generation = λ m e. generations n m e ∙ ap (λ i. (lock_at locks i).generation) (sym is) in
            kept_generation (old.generation == put.lock.generation) old.generation put.lock.generation n g (lock_generation_in rows.nodes n) refl of_old l)
        | false ↦ (λ c l. new_generations puts n g l)
      ]) refl k

  module _ (puts : List LockPut) (all : AllByRecursion (IsPut rows locks sessions) puts) (distinct : are_distinct (instances_of puts) ≡ true) (sorted : IsStrictlySortedBy lock_order (keys_of rows.locks)) where
    pub rows_put : AreLockRows (fold with_lock_put locks puts) (locks_behind rows.locks (map (lock_change locks) puts))
    rows_put n =
        changes_locks rows (map (lock_change locks) puts) n sorted (puts_fit puts all distinct)
        ∙ new_rows puts n ∙ ap (λ lock. lock_rows n lock) (sym (locks_put puts locks n distinct))

    pub generations_put : AreGenerations (fold with_lock_put locks puts) (nodes_behind rows.nodes (map (lock_change locks) puts))
    generations_put n g k =
        new_generations puts n g (sym (changes_generations cell rows (map (lock_change locks) puts) n h sorted (puts_fit puts all distinct)) ∙ k)
        ∙ ap (λ (lock : LockState). lock.generation) (sym (locks_put puts locks n distinct))

-- each that is put, and each that isn't
pub each_put : (P : ℕ → LockState → Type 0) (puts : List LockPut) (locks : LockTable) (n : ℕ) → AllByRecursion (λ put. P put.instance put.lock) puts → (list_any (λ m. m == n) (instances_of puts) ≡ false → P n (lock_at locks n)) → P n (put_at puts (lock_at locks n) n)
each_put P [] locks n all h = h refl
each_put P (put ∷ puts) locks n all h =
    (elim (put.instance == n) as (λ b. (put.instance == n) ≡ b → P n (cond b put.lock (put_at puts (lock_at locks n) n))) [
      | true ↦ (λ c. let Q : ℕ → Type 0 = λ i. P i put.lock in subst Q (eqb-true put.instance n c) all.0)
      | false ↦ (λ c. each_put P puts locks n all.1 (λ k. h (rw (c, k) refl)))
    ]) refl

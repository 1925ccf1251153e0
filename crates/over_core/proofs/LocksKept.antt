-- The locks beside the rows, where sessions change, and where locks are put.
use Rattle.std.proofs.Common.{◌≡◌, ℕ, List, [], ◌∷◌, true, false, refl, sym, ap, subst, ◌∙◌}
use Rattle.std.specs.Prelude.{◌&&◌, ◌||◌, ◌==◌, nat_le, map}
use Rattle.std.specs.List.{AllByRecursion, list_any}
use Rattle.std.specs.List.Sorted.{IsStrictlySortedBy}
use Rattle.std.specs.Map.{keys_of}
use Rattle.std.specs.Ordering.{nat_cmp}
use Rattle.std.proofs.lemmas.Bool.{and_parts, and_from, or_right}
use Rattle.node_core.specs.Limits.{lock_delay_limit}
use Rattle.node_core.specs.Nodes.{Nodes}
use Rattle.tags_cell.specs.Numbers.{is_client_number}
use Rattle.rows_cell.specs.declared.tables.Rows.{Rows}
use Rattle.rows_cell.specs.Keys.{lock_order}
use Rattle.rows_cell.specs.Rows.{StoredNodes, nodes_of, map_of, changed_rows}
use Rattle.rows_cell.specs.LockRows.{locks_edits}
use Rattle.rows_cell.specs.Sound.{sound, is_number, are_distinct}
use Rattle.rows_cell.proofs.SoundParts.{has_instance}
use Rattle.rows_cell.proofs.SoundGenerations.{found_there}
use Rattle.rows_cell.proofs.LockChanges.{ChangesFit, nodes_behind, locks_behind, changes_sound, changes_in_order, changes_map, locks_edits_done}
use Rattle.tags_cell.specs.declared.messages.outs.Reply.{Reply}
use Rattle.session_core.specs.Sessions.{SessionTable, is_live}
use Rattle.lock_core.specs.declared.claims.Owner.{Owner}
use Rattle.lock_core.specs.declared.claims.Hold.{Hold}
use Rattle.lock_core.specs.declared.claims.Claim.{Claim}
use Rattle.lock_core.specs.State.{LockState}
use Rattle.lock_core.specs.Locks.{LockTable, lock_at}
use Rattle.master_state.specs.declared.updates.LockPut.{LockPut}
use Rattle.master_state.specs.State.{MasterState}
use Rattle.master_parts.specs.StoredSessions.{session_rows}
use Rattle.master_state.specs.Updates.{with_locks, lock_change, lock_changes}
use Rattle.over_core.specs.Kept.{AreGenerations, AreLockRows, AreLocksKept, IsLockKept, is_idle, is_there, claim_fits, waiter_fits}
use Rattle.over_core.proofs.LockClaims.{IsFit, refit}
use Rattle.over_core.proofs.LockPuts.{IsPut, instances_of, fit_of, kept_of_fit, puts_fit, rows_put, generations_put, locks_put, locks_put_in_order, each_put}

-- ---- sessions that live on

module _ (sessions new : SessionTable Reply) (lives : (client : ℕ) → is_live sessions client ≡ true → is_live new client ≡ true) where
  pub claim_lives : (owner : Owner) (hold : Hold) → claim_fits sessions owner hold ≡ true → claim_fits new owner hold ≡ true
  claim_lives owner hold h =
      let t = and_parts (is_live sessions owner.client && is_number owner.handle) (nat_le hold.delay lock_delay_limit) h in
      let u = and_parts (is_live sessions owner.client) (is_number owner.handle) t.0 in
      and_from (is_live new owner.client && is_number owner.handle) (nat_le hold.delay lock_delay_limit) (and_from (is_live new owner.client) (is_number owner.handle) (lives owner.client u.0) u.1) t.1

  pub waiter_lives : (claim : Claim) → waiter_fits sessions claim ≡ true → waiter_fits new claim ≡ true
  waiter_lives claim h =
      let t = and_parts (is_client_number claim.owner.client) (claim_fits sessions claim.owner claim.hold) h in
      and_from (is_client_number claim.owner.client) (claim_fits new claim.owner claim.hold) t.0 (claim_lives claim.owner claim.hold t.1)

  pub fit_lives : (lock : LockState) → IsFit (claim_fits sessions) (waiter_fits sessions) lock → IsFit (claim_fits new) (waiter_fits new) lock
  fit_lives lock h = refit (claim_fits sessions) (claim_fits new) (waiter_fits sessions) (waiter_fits new) lock claim_lives waiter_lives h

  pub lock_lives : (nodes : Nodes) (instance : ℕ) (lock : LockState) → IsLockKept nodes sessions instance lock → IsLockKept nodes new instance lock
  lock_lives nodes instance lock k = kept_of_fit nodes new instance lock k.there (fit_lives lock (fit_of nodes sessions instance lock k))

-- where the locks and the nodes are untouched
pub locks_stay : (rows : Rows) (s new : MasterState) → new.nodes ≡ s.nodes → new.locks ≡ s.locks → ((client : ℕ) → is_live s.sessions client ≡ true → is_live new.sessions client ≡ true) → AreLocksKept rows s → AreLocksKept rows new
locks_stay rows s new nodes locks lives k =
    let G : LockTable → Type 0 = λ ls. AreGenerations ls rows.nodes in
    let R : LockTable → Type 0 = λ ls. AreLockRows ls rows.locks in
    let O : LockTable → Type 0 = λ ls. IsStrictlySortedBy nat_cmp (keys_of ls) in
    record {
      generations = subst G (sym locks) k.generations;
      rows_of_locks = subst R (sym locks) k.rows_of_locks;
      in_order = subst O (sym locks) k.in_order;
      each = λ n.
          let N : Nodes → Type 0 = λ ns. IsLockKept ns new.sessions n (lock_at new.locks n) in
          let L : LockTable → Type 0 = λ ls. IsLockKept s.nodes new.sessions n (lock_at ls n) in
          subst N (sym nodes) (subst L (sym locks) (lock_lives s.sessions new.sessions lives s.nodes n (lock_at s.locks n) (k.each n)));
    }

-- ---- the node of a lock

pub there_by_rows : (nodes : StoredNodes) (n : ℕ) → is_there (nodes_of nodes) n ≡ has_instance nodes n
there_by_rows [] n = refl
there_by_rows (e ∷ es) n = ap (λ b. e.1.node.instance == n || b) (there_by_rows es n)

pub put_there : (rows : Rows) (locks : LockTable) (sessions : SessionTable Reply) (nodes : Nodes) (put : LockPut) → nodes ≡ map_of rows → IsPut rows locks sessions put → is_there nodes put.instance ≡ true
put_there rows locks sessions nodes put same is =
    ap (λ ns. is_there ns put.instance) same ∙ there_by_rows rows.nodes put.instance ∙ found_there rows.nodes put.name is.node put.instance is.found is.instance

pub put_kept : (rows : Rows) (locks : LockTable) (sessions : SessionTable Reply) (nodes : Nodes) (put : LockPut) → nodes ≡ map_of rows → IsPut rows locks sessions put → IsLockKept nodes sessions put.instance put.lock
put_kept rows locks sessions nodes put same is =
    kept_of_fit nodes sessions put.instance put.lock (or_right (is_idle put.lock) (is_there nodes put.instance) (put_there rows locks sessions nodes put same is)) is.fit

pub all_put_kept : (rows : Rows) (locks : LockTable) (sessions : SessionTable Reply) (nodes : Nodes) (puts : List LockPut) → nodes ≡ map_of rows → AllByRecursion (IsPut rows locks sessions) puts → AllByRecursion (λ put. IsLockKept nodes sessions put.instance put.lock) puts
all_put_kept rows locks sessions nodes [] same all = tt
all_put_kept rows locks sessions nodes (put ∷ puts) same all = (put_kept rows locks sessions nodes put same all.0, all_put_kept rows locks sessions nodes puts same all.1)

-- ---- locks that are put

-- the rows after the edits of locks that are put
abbrev pub rows_behind : Rows → LockTable → List LockPut → Rows
rows_behind rows locks puts = record rows { nodes = nodes_behind rows.nodes (map (lock_change locks) puts); locks = locks_behind rows.locks (map (lock_change locks) puts) }

module _ (cell : List ℕ) (rows : Rows) (s : MasterState) (puts : List LockPut) (h : sound cell rows ≡ true) (same : session_rows s.sessions ≡ rows.sessions) (sorted : IsStrictlySortedBy lock_order (keys_of rows.locks)) (k : AreLocksKept rows s) (all : AllByRecursion (IsPut rows s.locks s.sessions) puts) (distinct : are_distinct (instances_of puts) ≡ true) where
  fits_rows : ChangesFit rows (lock_changes s puts)
  fits_rows = puts_fit cell rows s.locks s.sessions h same k.generations k.rows_of_locks (λ n. (k.each n).legal) puts all distinct

  pub puts_sound : sound cell (changed_rows rows (locks_edits (lock_changes s puts))) ≡ true
  puts_sound = changes_sound cell rows (lock_changes s puts) h sorted fits_rows

  pub puts_sorted : IsStrictlySortedBy lock_order (keys_of (rows_behind rows s.locks puts).locks)
  puts_sorted = changes_in_order rows (lock_changes s puts) sorted fits_rows

  pub puts_map : map_of (rows_behind rows s.locks puts) ≡ map_of rows
  puts_map = changes_map rows.nodes (lock_changes s puts)

  pub puts_done : changed_rows rows (locks_edits (lock_changes s puts)) ≡ rows_behind rows s.locks puts
  puts_done = locks_edits_done rows (lock_changes s puts)

  -- the locks stand beside the rows after the edits
  pub puts_kept : s.nodes ≡ map_of rows → AreLocksKept (rows_behind rows s.locks puts) (with_locks s puts)
  puts_kept nodes = record {
    generations = generations_put cell rows s.locks s.sessions h same k.generations k.rows_of_locks (λ n. (k.each n).legal) puts all distinct sorted;
    rows_of_locks = rows_put cell rows s.locks s.sessions h same k.generations k.rows_of_locks (λ n. (k.each n).legal) puts all distinct sorted;
    in_order = locks_put_in_order puts s.locks k.in_order;
    each = λ n.
        let P : LockState → Type 0 = IsLockKept s.nodes s.sessions n in
        subst P (sym (locks_put puts s.locks n distinct))
        (each_put (IsLockKept s.nodes s.sessions) puts s.locks n (all_put_kept rows s.locks s.sessions s.nodes puts nodes all) (λ none. k.each n));
  }

  -- the same of sessions of which some ended with it
  pub puts_kept_with : (sessions : SessionTable Reply) → AllByRecursion (λ put. IsLockKept s.nodes sessions put.instance put.lock) puts → ((n : ℕ) → list_any (λ m. m == n) (instances_of puts) ≡ false → IsLockKept s.nodes sessions n (lock_at s.locks n))
      → (n : ℕ) → IsLockKept s.nodes sessions n (lock_at (with_locks s puts).locks n)
  puts_kept_with sessions new others n =
      let P : LockState → Type 0 = IsLockKept s.nodes sessions n in
      subst P (sym (locks_put puts s.locks n distinct)) (each_put (IsLockKept s.nodes sessions) puts s.locks n new (others n))

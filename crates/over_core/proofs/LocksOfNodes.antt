-- The locks beside the rows, where a node is put or goes.
use Rattle.std.proofs.Common.{◌≡◌, ℕ, List, [], ◌∷◌, Bool, true, false, cond, Option, Some, None, refl, sym, ap, subst, ◌∙◌, arith}
use Rattle.std.specs.Prelude.{◌&&◌, ◌||◌, ◌==◌, not, nat_le, nat_lt, is_some, is_none, filter, unwrap_or}
use Rattle.std.specs.Option.{option_map_or}
use Rattle.std.specs.List.{list_all, list_any}
use Rattle.std.specs.List.Sorted.{IsStrictlySortedBy}
use Rattle.std.specs.Map.{keys_of, lookup, remove_entry}
use Rattle.std.specs.BTreeMap.{is_at}
use Rattle.std.specs.Ordering.{nat_cmp}
use Rattle.std.specs.Cmp.{nat_cmp_total}
use Rattle.std.specs.Cmp.Lexicographic.{slice_cmp}
use Rattle.std.proofs.lemmas.Bool.{and_parts, and_from, or_parts, or_from, not-true, not_from_false, eqb-true, eq-eqb}
use Rattle.std.proofs.lemmas.Bool.Decides.{nat_tests}
use Rattle.std.proofs.lemmas.Map.Lookups.{exact_bytes, exact_unsigned}
use Rattle.node_core.specs.declared.nodes.Node.{Node}
use Rattle.node_core.specs.Nodes.{Nodes}
use Rattle.rows_cell.specs.declared.keys.LockKey.{LockKey}
use Rattle.rows_cell.specs.declared.tables.LockRow.{LockRow}
use Rattle.rows_cell.specs.declared.tables.StoredNode.{StoredNode}
use Rattle.rows_cell.specs.declared.tables.Rows.{Rows}
use Rattle.rows_cell.specs.Rows.{StoredNodes, StoredLocks, stored_node, nodes_of, put_stored, without_locks_of}
use Rattle.rows_cell.specs.Indexes.{locks_at, lock_generation_in}
use Rattle.rows_cell.specs.Sound.{are_distinct, node_fits}
use Rattle.rows_cell.proofs.EntriesInOrder.{sorted_gone}
use Rattle.rows_cell.proofs.InstanceTables.{there_is}
use Rattle.rows_cell.proofs.PutEntries.{all_put, all_more, any_put}
use Rattle.rows_cell.proofs.SortedLookups.{lookup_gone}
use Rattle.rows_cell.proofs.SoundChanges.{PutFits}
use Rattle.rows_cell.proofs.SoundGenerations.{any_found, found_by_instance}
use Rattle.rows_cell.proofs.SoundParts.{has_instance, instances, parts_of, numbers_of}
use Rattle.rows_cell.proofs.SoundRemovals.{all_from_both, all_gone, any_gone}
use Rattle.tags_cell.specs.declared.messages.outs.Reply.{Reply}
use Rattle.session_core.specs.Sessions.{SessionTable}
use Rattle.lock_core.specs.State.{LockState, IsLegal, lock_of, nobody_holds}
use Rattle.lock_core.specs.Turns.{is_nobody}
use Rattle.lock_core.specs.Locks.{LockTable, lock_at}
use Rattle.master_parts.specs.Locks.{lock_rows}
use Rattle.master_state.specs.State.{MasterState}
use Rattle.over_core.specs.Kept.{IsKept, AreGenerations, AreLockRows, IsLockKept, is_idle, is_there}
use Rattle.over_core.proofs.LockPuts.{at_number}
use Rattle.over_core.proofs.LocksKept.{there_by_rows}

-- ---- generations, as a test of each node

abbrev has_own : LockTable → List ℕ × StoredNode → Bool
has_own locks e = e.1.lock_generation == (lock_at locks e.1.node.instance).generation

same_number : (n : ℕ) → (n == n) ≡ true
same_number n = grind (arith, nat_tests)

each_generation : (locks : LockTable) (nodes : StoredNodes) → list_all (has_own locks) nodes ≡ true → AreGenerations locks nodes
each_generation locks [] h n g is = absurd cc
each_generation locks (e ∷ es) h n g is =
    let t = and_parts (has_own locks e) (list_all (has_own locks) es) h in
    (elim (e.1.node.instance == n) as (λ b. (e.1.node.instance == n) ≡ b → cond b (Some e.1.lock_generation) (lock_generation_in es n) ≡ Some g → g ≡ (lock_at locks n).generation) [
      | true ↦ (λ c k.
          let same : e.1.lock_generation ≡ g = cc in
          sym same ∙ eqb-true e.1.lock_generation (lock_at locks e.1.node.instance).generation t.0 ∙ ap (λ i. (lock_at locks i).generation) (eqb-true e.1.node.instance n c))
      | false ↦ (λ c k. each_generation locks es t.1 n g k)
    ]) refl is

by_instance : (nodes : StoredNodes) (n : ℕ) → has_instance nodes n ≡ list_any (λ m. m == n) (instances nodes)
by_instance [] n = refl
by_instance (e ∷ es) n = ap (λ b. e.1.node.instance == n || b) (by_instance es n)

not_twice : (nodes : StoredNodes) (n g : ℕ) (P : Type 0) → lock_generation_in nodes n ≡ Some g → not (list_any (λ m. m == n) (instances nodes)) ≡ true → P
not_twice nodes n g P found none =
    let some : is_some (lock_generation_in nodes n) ≡ true = ap is_some found in
    let among : list_any (λ m. m == n) (instances nodes) ≡ true = sym (by_instance nodes n) ∙ sym (there_is nodes n) ∙ some in
    let none_are = not-true (list_any (λ m. m == n) (instances nodes)) none in
    absurd cc

all_generations : (locks : LockTable) (nodes : StoredNodes) → are_distinct (instances nodes) ≡ true → AreGenerations locks nodes → list_all (has_own locks) nodes ≡ true
all_generations locks [] distinct are = refl
all_generations locks (e ∷ es) distinct are =
    let i : ℕ = e.1.node.instance in
    let t = and_parts (not (list_any (λ m. m == i) (instances es))) (are_distinct (instances es)) distinct in
    let head : e.1.lock_generation ≡ (lock_at locks i).generation = are i e.1.lock_generation (ap (λ b. cond b (Some e.1.lock_generation) (lock_generation_in es i)) (same_number i)) in
    and_from (has_own locks e) (list_all (has_own locks) es) (eq-eqb e.1.lock_generation (lock_at locks i).generation head)
    (all_generations locks es t.1 (λ n g found.
    (elim (i == n) as (λ b. (i == n) ≡ b → g ≡ (lock_at locks n).generation) [
      | true ↦ (λ c.
          let P : ℕ → Type 0 = λ m. not (list_any (λ x. x == m) (instances es)) ≡ true in
          not_twice es n g (g ≡ (lock_at locks n).generation) found (subst P (eqb-true i n c) t.0))
      | false ↦ (λ c. are n g (ap (λ b. cond b (Some e.1.lock_generation) (lock_generation_in es n)) c ∙ found))
    ]) refl))

-- ---- a node that is put

or_still : (a b c : Bool) → (b ≡ true → c ≡ true) → (a || b) ≡ true → (a || c) ≡ true
or_still true b c h k = refl
or_still false b c h k = h k

or_first : (a b : Bool) → (a || b) ≡ true → b ≡ false → a ≡ true
or_first true b h k = refl
or_first false b h k = absurd cc

-- the locks of nodes that are there still
pub still_kept : (nodes new : Nodes) (sessions : SessionTable Reply) (n : ℕ) (lock : LockState) → (is_there nodes n ≡ true → is_there new n ≡ true) → IsLockKept nodes sessions n lock → IsLockKept new sessions n lock
still_kept nodes new sessions n lock there k = record {
  legal = k.legal;
  there = or_still (is_idle lock) (is_there nodes n) (is_there new n) there k.there;
  holders = k.holders;
  holders_in_order = k.holders_in_order;
  waiters = k.waiters;
  closing = k.closing;
}

past_apart : (a next n : ℕ) → nat_lt a next ≡ true → nat_le next n ≡ true → (a == n) ≡ false
past_apart a next n below past = grind (arith, nat_tests)

none_past : (nodes : StoredNodes) (next n : ℕ) → list_all (λ e. nat_lt e.1.node.instance next) nodes ≡ true → nat_le next n ≡ true → has_instance nodes n ≡ false
none_past [] next n below past = refl
none_past (e ∷ es) next n below past =
    let t = and_parts (nat_lt e.1.node.instance next) (list_all (λ (x : List ℕ × StoredNode). nat_lt x.1.node.instance next) es) below in
    or_from (e.1.node.instance == n) (has_instance es n) (past_apart e.1.node.instance next n t.0 past) (none_past es next n t.1 past)

-- a lock of a node that isn't there was never held
idle_generation : (lock : LockState) → is_idle lock ≡ true → lock.generation ≡ 0
idle_generation lock h =
    let a = and_parts (lock.generation == 0 && is_none lock.closed && nobody_holds lock) (is_nobody lock.waiters) h in
    let b = and_parts (lock.generation == 0 && is_none lock.closed) (nobody_holds lock) a.0 in
    let c = and_parts (lock.generation == 0) (is_none lock.closed) b.0 in
    eqb-true lock.generation 0 c.0

module _ (cell : List ℕ) (rows : Rows) (s : MasterState) (k : IsKept cell rows s) where
  there_in_rows : (n : ℕ) → is_there s.nodes n ≡ has_instance rows.nodes n
  there_in_rows n = ap (λ (ns : Nodes). is_there ns n) k.nodes ∙ there_by_rows rows.nodes n

  own_generations : list_all (has_own s.locks) rows.nodes ≡ true
  own_generations = all_generations s.locks rows.nodes (parts_of cell rows k.sound_rows).distinct k.locks.generations

  module _ (name : List ℕ) (view : Node) (next : ℕ) (fits : PutFits rows name view next) where
    new_generation_is : (o : Option StoredNode) → stored_node rows.nodes name ≡ o → (option_map_or (λ (node : StoredNode). node.lock_generation) o 0 == (lock_at s.locks view.instance).generation) ≡ true
    new_generation_is None e =
        let lock : LockState = lock_at s.locks view.instance in
        let past : nat_le rows.next_instance view.instance ≡ true = rw e at fits.own in
        let below : list_all (λ (x : List ℕ × StoredNode). nat_lt x.1.node.instance rows.next_instance) rows.nodes ≡ true =
        all_more (node_fits cell rows.next_instance rows.nodes) (λ x. nat_lt x.1.node.instance rows.next_instance) rows.nodes (λ x h. (numbers_of cell rows.next_instance rows.nodes x h).0) (parts_of cell rows k.sound_rows).nodes in
        let none : is_there s.nodes view.instance ≡ false = there_in_rows view.instance ∙ none_past rows.nodes rows.next_instance view.instance below past in
        let idle = or_first (is_idle lock) (is_there s.nodes view.instance) (k.locks.each view.instance).there none in
        eq-eqb 0 lock.generation (sym (idle_generation lock idle))
    new_generation_is (Some node) e =
        let own : (node.node.instance == view.instance) ≡ true = rw e at fits.own in
        let is : node.node.instance ≡ view.instance = eqb-true node.node.instance view.instance own in
        let found = found_by_instance rows.nodes name node e (parts_of cell rows k.sound_rows).distinct in
        eq-eqb node.lock_generation (lock_at s.locks view.instance).generation (k.locks.generations view.instance node.lock_generation (ap (λ n. lock_generation_in rows.nodes n) (sym is) ∙ found))

    pub put_generations : AreGenerations s.locks (put_stored rows.nodes name view)
    put_generations =
        each_generation s.locks (put_stored rows.nodes name view)
        (all_put (slice_cmp nat_cmp) exact_bytes (has_own s.locks) rows.nodes name (record { node = view; lock_generation = option_map_or (λ (node : StoredNode). node.lock_generation) (stored_node rows.nodes name) 0 }) own_generations
        (new_generation_is (stored_node rows.nodes name) refl))

    there_with_put : (n : ℕ) → has_instance rows.nodes n ≡ true → has_instance (put_stored rows.nodes name view) n ≡ true
    there_with_put n h =
        any_put (slice_cmp nat_cmp) (λ (node : StoredNode). node.node.instance == n) rows.nodes name (record { node = view; lock_generation = option_map_or (λ (node : StoredNode). node.lock_generation) (stored_node rows.nodes name) 0 })
        (λ node found is.
        let own : (node.node.instance == view.instance) ≡ true = rw found at fits.own in
        ap (λ i. i == n) (sym (eqb-true node.node.instance view.instance own)) ∙ is) h

    pub put_each : (new : Nodes) → new ≡ nodes_of (put_stored rows.nodes name view) → (n : ℕ) → IsLockKept new s.sessions n (lock_at s.locks n)
    put_each new is n =
        still_kept s.nodes new s.sessions n (lock_at s.locks n)
        (λ there. ap (λ (ns : Nodes). is_there ns n) is ∙ there_by_rows (put_stored rows.nodes name view) n ∙ there_with_put n (sym (there_in_rows n) ∙ there))
        (k.locks.each n)

-- ---- a node that goes, and its lock with it

none_there : (es : StoredNodes) (n : ℕ) → list_any (λ m. m == n) (instances es) ≡ false → list_all (λ (e : List ℕ × StoredNode). not (e.1.node.instance == n)) es ≡ true
none_there [] n h = refl
none_there (e ∷ es) n h =
    let t = or_parts (e.1.node.instance == n) (list_any (λ m. m == n) (instances es)) h in
    and_from (not (e.1.node.instance == n)) (list_all (λ (x : List ℕ × StoredNode). not (x.1.node.instance == n)) es) (not_from_false (e.1.node.instance == n) t.0) (none_there es n t.1)

apart_from : (name : List ℕ) (es : StoredNodes) (node : StoredNode) (i : ℕ) (any : Bool) → any ≡ list_any (λ m. m == i) (instances es) → stored_node es name ≡ Some node → any ≡ false → (i == node.node.instance) ≡ false
apart_from name es node i any is f none =
    (elim (i == node.node.instance) as (λ b. (i == node.node.instance) ≡ b → b ≡ false) [
      | true ↦ (λ c.
          let own : (node.node.instance == i) ≡ true = eq-eqb node.node.instance i (sym (eqb-true i node.node.instance c)) in
          let there : has_instance es i ≡ true = any_found (is_at (slice_cmp nat_cmp name)) (λ (x : StoredNode). x.node.instance == i) es node f own in
          let among = by_instance es i in
          absurd cc)
      | false ↦ (λ c. refl)
    ]) refl

only_there : (nodes : StoredNodes) (name : List ℕ) (node : StoredNode) → stored_node nodes name ≡ Some node → are_distinct (instances nodes) ≡ true → list_all (λ e. not (e.1.node.instance == node.node.instance)) (remove_entry (is_at (slice_cmp nat_cmp name)) nodes) ≡ true
only_there [] name node found distinct = refl
only_there (e ∷ es) name node found distinct =
    let at : List ℕ → Bool = is_at (slice_cmp nat_cmp name) in
    let i : ℕ = e.1.node.instance in
    let any : Bool = list_any (λ m. m == i) (instances es) in
    let other : List ℕ × StoredNode → Bool = λ x. not (x.1.node.instance == node.node.instance) in
    let t = and_parts (not any) (are_distinct (instances es)) distinct in
    (elim (at e.0) as (λ b. cond b (Some e.1) (stored_node es name) ≡ Some node → list_all other (cond b es (e ∷ remove_entry at es)) ≡ true) [
      | true ↦ (λ f.
          let same : e.1 ≡ node = cc in
          let P : StoredNode → Type 0 = λ x. list_any (λ m. m == x.node.instance) (instances es) ≡ false in
          none_there es node.node.instance (subst P same (not-true any t.0)))
      | false ↦ (λ f.
          and_from (other e) (list_all other (remove_entry at es)) (not_from_false (i == node.node.instance) (apart_from name es node i any refl f (not-true any t.0))) (only_there es name node f t.1))
    ]) found

-- the lock of an instance that goes, and all others
pub lock_gone : (locks : LockTable) (instance n : ℕ) → IsStrictlySortedBy nat_cmp (keys_of locks) → lock_at (remove_entry (is_at (nat_cmp instance)) locks) n ≡ cond (instance == n) (lock_of 0) (lock_at locks n)
lock_gone locks instance n sorted =
    ap (λ o. unwrap_or o (lock_of 0)) (lookup_gone nat_cmp nat_cmp_total exact_unsigned locks instance n sorted)
    ∙ none_or (is_at (nat_cmp n) instance) (lookup (is_at (nat_cmp n)) locks)
    ∙ ap (λ b. cond b (lock_of 0) (lock_at locks n)) (at_number n instance)
  where
    none_or : (b : Bool) (o : Option LockState) → unwrap_or (cond b None o) (lock_of 0) ≡ cond b (lock_of 0) (unwrap_or o (lock_of 0))
    none_or true o = refl
    none_or false o = refl

legal_none : IsLegal (lock_of 0)
legal_none = record { holders = refl; closed = refl; held = refl; generation = omega arith }

-- a lock that nobody ever held is kept, whatever else is
pub none_kept : (nodes : Nodes) (sessions : SessionTable Reply) (n : ℕ) → IsLockKept nodes sessions n (lock_of 0)
unfolding IsStrictlySortedBy
none_kept nodes sessions n = record { legal = legal_none; there = refl; holders = refl; holders_in_order = tt; waiters = refl; closing = refl }

-- the rows of one lock, without those of another
rows_off : (locks : StoredLocks) (instance n : ℕ) → locks_at (filter (λ e. not (e.0.instance == instance)) locks) n ≡ cond (instance == n) [] (locks_at locks n)
rows_off [] instance n = elim (instance == n) as (λ b. ◌≡◌ {A = StoredLocks} [] (cond b [] [])) [ true ↦ refl | false ↦ refl ]
rows_off (e ∷ es) instance n =
    let at : StoredLocks → StoredLocks = λ xs. locks_at xs n in
    let left : StoredLocks = filter (λ (x : LockKey × LockRow). not (x.0.instance == instance)) es in
    let rest : at left ≡ cond (instance == n) [] (at es) = rows_off es instance n in
    (elim (e.0.instance == instance) as (λ b. (e.0.instance == instance) ≡ b → at (cond (not b) (e ∷ left) left) ≡ cond (instance == n) [] (cond (e.0.instance == n) (e ∷ at es) (at es))) [
      | true ↦ (λ c. rest ∙ either_none (instance == n) (e.0.instance == n) e (at es) (λ f. ap (λ i. i == n) (sym (eqb-true e.0.instance instance c)) ∙ f))
      | false ↦ (λ c.
          (elim (e.0.instance == n) as (λ b. (e.0.instance == n) ≡ b → cond b (e ∷ at left) (at left) ≡ cond (instance == n) [] (cond b (e ∷ at es) (at es))) [
            | true ↦ (λ f.
                let other : (instance == n) ≡ false = apart e.0.instance instance n c f in
                ap (λ (xs : StoredLocks). e ∷ xs) (rest ∙ ap (λ b. cond b [] (at es)) other) ∙ ap (λ b. cond b [] (e ∷ at es)) (sym other))
            | false ↦ (λ f. rest)
          ]) refl)
    ]) refl
  where
    either_none : (a b : Bool) (x : LockKey × LockRow) (xs : StoredLocks) → (b ≡ true → a ≡ true) → cond a [] xs ≡ cond a [] (cond b (x ∷ xs) xs)
    either_none true b x xs h = refl
    either_none false true x xs h = let no = h refl in absurd cc
    either_none false false x xs h = refl

    apart : (i j n : ℕ) → (i == j) ≡ false → (i == n) ≡ true → (j == n) ≡ false
    apart i j n h k = grind (arith, nat_tests)

module _ (cell : List ℕ) (rows : Rows) (s : MasterState) (k : IsKept cell rows s) (name : List ℕ) (node : StoredNode) (instance : ℕ) (found : stored_node rows.nodes name ≡ Some node) (of_node : node.node.instance ≡ instance) where
  abbrev left_nodes : StoredNodes
  left_nodes = remove_entry (is_at (slice_cmp nat_cmp name)) rows.nodes

  abbrev left_locks : LockTable
  left_locks = remove_entry (is_at (nat_cmp instance)) s.locks

  left_at : (n : ℕ) → lock_at left_locks n ≡ cond (instance == n) (lock_of 0) (lock_at s.locks n)
  left_at n = lock_gone s.locks instance n k.locks.in_order

  others_left : list_all (λ e. not (e.1.node.instance == instance)) left_nodes ≡ true
  others_left =
      let P : ℕ → Type 0 = λ i. list_all (λ (e : List ℕ × StoredNode). not (e.1.node.instance == i)) left_nodes ≡ true in
      subst P of_node (only_there rows.nodes name node found (parts_of cell rows k.sound_rows).distinct)

  turned : (a b : ℕ) → not (a == b) ≡ true → (b == a) ≡ false
  turned a b h = apart a b (not-true (a == b) h)
    where
      apart : (a b : ℕ) → (a == b) ≡ false → (b == a) ≡ false
      apart a b h = grind (arith, nat_tests)

  pub gone_generations : AreGenerations left_locks left_nodes
  gone_generations =
      each_generation left_locks left_nodes
      (all_from_both (has_own s.locks) (λ e. not (e.1.node.instance == instance)) (has_own left_locks) left_nodes
      (λ e own other.
      let same : lock_at left_locks e.1.node.instance ≡ lock_at s.locks e.1.node.instance = left_at e.1.node.instance ∙ ap (λ b. cond b (lock_of 0) (lock_at s.locks e.1.node.instance)) (turned e.1.node.instance instance other) in
      ap (λ (lock : LockState). e.1.lock_generation == lock.generation) same ∙ own)
      (all_gone (is_at (slice_cmp nat_cmp name)) (has_own s.locks) rows.nodes (own_generations cell rows s k)) others_left)

  pub gone_rows : AreLockRows left_locks (without_locks_of (stored_node rows.nodes name) rows.locks)
  gone_rows n =
      let left : ℕ → StoredLocks = λ i. locks_at (filter (λ (e : LockKey × LockRow). not (e.0.instance == i)) rows.locks) n in
      ap (λ o. locks_at (without_locks_of o rows.locks) n) found ∙ ap left of_node ∙ rows_off rows.locks instance n
      ∙ (elim (instance == n) as (λ b. cond b [] (locks_at rows.locks n) ≡ lock_rows n (cond b (lock_of 0) (lock_at s.locks n))) [ true ↦ refl | false ↦ k.locks.rows_of_locks n ])
      ∙ ap (λ lock. lock_rows n lock) (sym (left_at n))

  still_there : (n : ℕ) → (instance == n) ≡ false → has_instance rows.nodes n ≡ true → has_instance left_nodes n ≡ true
  still_there n other h =
      any_gone (is_at (slice_cmp nat_cmp name)) (λ (x : StoredNode). x.node.instance == n) rows.nodes
      (λ w is.
      let first = found in
      let same : node ≡ w = cc in
      ap (λ (x : StoredNode). x.node.instance == n) (sym same) ∙ ap (λ i. i == n) of_node ∙ other) h

  pub gone_each : (new : Nodes) → new ≡ nodes_of left_nodes → (n : ℕ) → IsLockKept new s.sessions n (lock_at left_locks n)
  gone_each new is n =
      let P : LockState → Type 0 = IsLockKept new s.sessions n in
      subst P (sym (left_at n))
      ((elim (instance == n) as (λ b. (instance == n) ≡ b → IsLockKept new s.sessions n (cond b (lock_of 0) (lock_at s.locks n))) [
        | true ↦ (λ c. none_kept new s.sessions n)
        | false ↦ (λ c.
            still_kept s.nodes new s.sessions n (lock_at s.locks n)
            (λ there. ap (λ (ns : Nodes). is_there ns n) is ∙ there_by_rows left_nodes n ∙ still_there n c (sym (there_in_rows cell rows s k n) ∙ there))
            (k.locks.each n))
      ]) refl)

  pub gone_in_order : IsStrictlySortedBy nat_cmp (keys_of left_locks)
  gone_in_order = sorted_gone nat_cmp (is_at (nat_cmp instance)) s.locks k.locks.in_order

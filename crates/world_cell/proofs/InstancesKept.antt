-- Which instances rows know, and what the removal of a node leaves of them and of their locks.
use Rattle.std.proofs.Common.{◌≡◌, ℕ, ◌<◌, List, [], ◌∷◌, Bool, true, false, cond, Option, Some, None, refl, sym, ap, subst, ◌∙◌, inl, inr, arith}
use Rattle.std.specs.Prelude.{◌⊎◌, ◌&&◌, ◌||◌, ◌==◌, not, nat_lt, filter}
use Rattle.std.specs.List.{list_all, list_any}
use Rattle.std.specs.Map.{remove_entry}
use Rattle.std.specs.BTreeMap.{is_at}
use Rattle.std.specs.Cmp.{nat_cmp_total, tied_itself}
use Rattle.std.proofs.lemmas.Bool.{and_parts, and_from, or_left, or_right, eqb-true}
use Rattle.std.proofs.lemmas.Bool.Decides.{nat_tests}
use Rattle.rows_cell.specs.declared.tables.StoredNode.{StoredNode}
use Rattle.rows_cell.specs.declared.tables.LockRow.{LockRow}
use Rattle.rows_cell.specs.declared.keys.LockKey.{LockKey}
use Rattle.rows_cell.specs.Keys.{lock_order}
use Rattle.rows_cell.specs.Rows.{StoredNodes, StoredLocks, nodes_of, without_locks_of}
use Rattle.rows_cell.specs.Sound.{node_fits, are_distinct}
use Rattle.rows_cell.specs.Indexes.{lock_generation_in, locks_at}
use Rattle.rows_cell.specs.LockRows.{is_holding, has_holder}
use Rattle.rows_cell.proofs.PutEntries.{all_more}
use Rattle.rows_cell.proofs.SoundParts.{instances, has_instance, numbers_of}
use Rattle.over_core.specs.Kept.{is_there}
use Rattle.world_cell.specs.Locks.{holds_by}

-- ---- an instance that is there

pub there_by_rows : (nodes : StoredNodes) (n : ℕ) → is_there (nodes_of nodes) n ≡ has_instance nodes n
there_by_rows [] n = refl
there_by_rows (e ∷ es) n = ap (λ b. e.1.node.instance == n || b) (there_by_rows es n)

-- it has a lock's generation, and none other has
pub has_of : (nodes : StoredNodes) (n generation : ℕ) → lock_generation_in nodes n ≡ Some generation → has_instance nodes n ≡ true
has_of [] n generation h = absurd cc
has_of (e ∷ es) n generation h =
    (elim (e.1.node.instance == n) as (λ b. cond b (Some e.1.lock_generation) (lock_generation_in es n) ≡ Some generation → (b || has_instance es n) ≡ true) [
      | true ↦ (λ k. refl)
      | false ↦ (λ k. has_of es n generation k)
    ]) h

pub has_none : (nodes : StoredNodes) (n : ℕ) → lock_generation_in nodes n ≡ None → has_instance nodes n ≡ false
has_none [] n h = refl
has_none (e ∷ es) n h =
    (elim (e.1.node.instance == n) as (λ b. cond b (Some e.1.lock_generation) (lock_generation_in es n) ≡ None → (b || has_instance es n) ≡ false) [
      | true ↦ (λ k. absurd cc)
      | false ↦ (λ k. has_none es n k)
    ]) h

pub generation_of : (nodes : StoredNodes) (n : ℕ) → has_instance nodes n ≡ true → (generation : ℕ) × (lock_generation_in nodes n ≡ Some generation)
generation_of nodes n h = found (lock_generation_in nodes n) refl
  where
    found : (o : Option ℕ) → lock_generation_in nodes n ≡ o → (generation : ℕ) × (lock_generation_in nodes n ≡ Some generation)
    found None is = let none = has_none nodes n is in absurd cc
    found (Some generation) is = (generation, is)

below : (n next : ℕ) → nat_lt n next ≡ true → n < next
below n next h = grind (arith, nat_tests)

-- it was given out
pub was_given : (cell : List ℕ) (next : ℕ) (all nodes : StoredNodes) (n : ℕ) → list_all (node_fits cell next all) nodes ≡ true → has_instance nodes n ≡ true → n < next
was_given cell next all [] n h there = absurd cc
was_given cell next all (e ∷ es) n h there =
    let t = and_parts (node_fits cell next all e) (list_all (node_fits cell next all) es) h in
    (elim (e.1.node.instance == n) as (λ b. (e.1.node.instance == n) ≡ b → (b || has_instance es n) ≡ true → n < next) [
      | true ↦ (λ c k.
          let P : ℕ → Type 0 = λ m. m < next in
          subst P (eqb-true e.1.node.instance n c) (below e.1.node.instance next (numbers_of cell next all e t.0).0))
      | false ↦ (λ c k. was_given cell next all es n t.1 k)
    ]) refl there

-- ---- a node that goes

pub has_left : (test : List ℕ → Bool) (nodes : StoredNodes) (n : ℕ) → has_instance (remove_entry test nodes) n ≡ true → has_instance nodes n ≡ true
has_left test [] n h = h
has_left test (e ∷ es) n h =
    (elim (test e.0) as (λ b. has_instance (cond b es (e ∷ remove_entry test es)) n ≡ true → (e.1.node.instance == n || has_instance es n) ≡ true) [
      | true ↦ (λ k. or_right (e.1.node.instance == n) (has_instance es n) k)
      | false ↦ (λ k.
          (elim (e.1.node.instance == n) as (λ b. (b || has_instance (remove_entry test es) n) ≡ true → (b || has_instance es n) ≡ true) [
            | true ↦ (λ l. refl)
            | false ↦ (λ l. has_left test es n l)
          ]) k)
    ]) h

has_by : (nodes : StoredNodes) (n : ℕ) → has_instance nodes n ≡ list_any (λ m. m == n) (instances nodes)
has_by [] n = refl
has_by (e ∷ es) n = ap (λ b. e.1.node.instance == n || b) (has_by es n)

opposite : (b : Bool) → b ≡ true → not b ≡ true → ⊥
opposite b h k = absurd cc

-- the generations of all others stay
pub generation_left : (test : List ℕ → Bool) (nodes : StoredNodes) (n generation : ℕ) → are_distinct (instances nodes) ≡ true → lock_generation_in (remove_entry test nodes) n ≡ Some generation → lock_generation_in nodes n ≡ Some generation
generation_left test [] n generation distinct h = h
generation_left test (e ∷ es) n generation distinct h =
    let any : Bool = list_any (λ m. m == e.1.node.instance) (instances es) in
    let t = and_parts (not any) (are_distinct (instances es)) distinct in
    (elim (test e.0) as (λ b. lock_generation_in (cond b es (e ∷ remove_entry test es)) n ≡ Some generation → cond (e.1.node.instance == n) (Some e.1.lock_generation) (lock_generation_in es n) ≡ Some generation) [
      | true ↦ (λ k.
          (elim (e.1.node.instance == n) as (λ b. (e.1.node.instance == n) ≡ b → cond b (Some e.1.lock_generation) (lock_generation_in es n) ≡ Some generation) [
            | true ↦ (λ c.
                let P : ℕ → Type 0 = λ m. has_instance es m ≡ true in
                let twice : P e.1.node.instance = subst P (sym (eqb-true e.1.node.instance n c)) (has_of es n generation k) in
                absurd (opposite any (sym (has_by es e.1.node.instance) ∙ twice) t.0))
            | false ↦ (λ c. k)
          ]) refl)
      | false ↦ (λ k.
          (elim (e.1.node.instance == n) as (λ b. cond b (Some e.1.lock_generation) (lock_generation_in (remove_entry test es) n) ≡ Some generation → cond b (Some e.1.lock_generation) (lock_generation_in es n) ≡ Some generation) [
            | true ↦ (λ l. l)
            | false ↦ (λ l. generation_left test es n generation t.1 l)
          ]) k)
    ]) h

-- ---- the rows of locks, once those of one node are gone

pub own_gone : (locks : StoredLocks) (n : ℕ) → locks_at (filter (λ e. not (e.0.instance == n)) locks) n ≡ []
own_gone [] n = refl
own_gone (e ∷ es) n =
    let left : StoredLocks = filter (λ e. not (e.0.instance == n)) es in
    (elim (e.0.instance == n) as (λ b. (e.0.instance == n) ≡ b → locks_at (cond (not b) (e ∷ left) left) n ≡ []) [
      | true ↦ (λ c. own_gone es n)
      | false ↦ (λ c. rw c (own_gone es n))
    ]) refl

pub others_stay : (locks : StoredLocks) (m n : ℕ) → (m == n) ≡ false → locks_at (filter (λ e. not (e.0.instance == m)) locks) n ≡ locks_at locks n
others_stay [] m n h = refl
others_stay (e ∷ es) m n h =
    let left : StoredLocks = filter (λ e. not (e.0.instance == m)) es in
    let rest = others_stay es m n h in
    (elim (e.0.instance == m) as (λ b. (e.0.instance == m) ≡ b → locks_at (cond (not b) (e ∷ left) left) n ≡ locks_at (e ∷ es) n) [
      | true ↦ (λ c.
          let P : ℕ → Type 0 = λ i. (i == n) ≡ false in
          let other : P e.0.instance = subst P (sym (eqb-true e.0.instance m c)) h in
          rw other rest)
      | false ↦ (λ c. ap (λ (ls : StoredLocks). cond (e.0.instance == n) (e ∷ ls) ls) rest)
    ]) refl

-- none of a node's, or all
pub rows_left : (o : Option StoredNode) (locks : StoredLocks) (n : ℕ) → (locks_at (without_locks_of o locks) n ≡ []) ⊎ (locks_at (without_locks_of o locks) n ≡ locks_at locks n)
rows_left None locks n = inr refl
rows_left (Some node) locks n =
    let m : ℕ = node.node.instance in
    let left : StoredLocks = filter (λ e. not (e.0.instance == m)) locks in
    (elim (m == n) as (λ b. (m == n) ≡ b → (locks_at left n ≡ []) ⊎ (locks_at left n ≡ locks_at locks n)) [
      | true ↦ (λ c.
          let P : ℕ → Type 0 = λ i. locks_at left i ≡ [] in
          inl (subst P (eqb-true m n c) (own_gone locks m)))
      | false ↦ (λ c. inr (others_stay locks m n c))
    ]) refl

-- ---- a lock whose rows stay doesn't come from free to held

abbrev pub begins_by : StoredLocks → StoredLocks → Bool
begins_by old new = has_holder new && not (list_any (λ e. is_holding e.1.state && holds_by old e.0) new)

own_key : (key : LockKey) → is_at (lock_order key) key ≡ true
own_key key = rw (tied_itself nat_cmp_total key.instance, tied_itself nat_cmp_total key.client, tied_itself nat_cmp_total key.handle) refl

or_more : (a b c : Bool) → (b ≡ true → c ≡ true) → (not a || b) ≡ true → (not a || c) ≡ true
or_more true b c f h = f h
or_more false b c f h = refl

own_held : (a b : Bool) → (not a || ((a && true) || b)) ≡ true
own_held true b = refl
own_held false b = refl

each_holds : (rows : StoredLocks) → list_all (λ e. not (is_holding e.1.state) || holds_by rows e.0) rows ≡ true
each_holds [] = refl
each_holds (e ∷ es) =
    let holds : StoredLocks → LockKey × LockRow → Bool = λ rows x. not (is_holding x.1.state) || holds_by rows x.0 in
    let own : holds (e ∷ es) e ≡ true = rw (own_key e.0) (own_held (is_holding e.1.state) (holds_by es e.0)) in
    and_from (holds (e ∷ es) e) (list_all (holds (e ∷ es)) es) own
    (all_more (holds es) (holds (e ∷ es)) es (λ x. or_more (is_holding x.1.state) (holds_by es x.0) (holds_by (e ∷ es) x.0) (or_right (is_holding e.1.state && is_at (lock_order x.0) e.0) (holds_by es x.0))) (each_holds es))

any_both : {X : Type 0} (p q : X → Bool) (xs : List X) → list_all (λ x. not (p x) || q x) xs ≡ true → list_any p xs ≡ true → list_any (λ x. p x && q x) xs ≡ true
any_both p q [] all h = h
any_both {X} p q (x ∷ xs) all h =
    let t = and_parts (not (p x) || q x) (list_all (λ y. not (p y) || q y) xs) all in
    (elim (p x) as (λ b. (not b || q x) ≡ true → (b || list_any p xs) ≡ true → ((b && q x) || list_any (λ y. p y && q y) xs) ≡ true) [
      | true ↦ (λ k l. or_left (q x) (list_any (λ y. p y && q y) xs) k)
      | false ↦ (λ k l. any_both p q xs t.1 l)
    ]) t.0 h

and_opposite : (a b : Bool) → (a ≡ true → b ≡ true) → (a && not b) ≡ false
and_opposite true b h = rw (h refl) refl
and_opposite false b h = refl

pub same_begin : (rows : StoredLocks) → begins_by rows rows ≡ false
same_begin rows =
    and_opposite (has_holder rows) (list_any (λ e. is_holding e.1.state && holds_by rows e.0) rows)
    (any_both (λ (e : LockKey × LockRow). is_holding e.1.state) (λ (e : LockKey × LockRow). holds_by rows e.0) rows (each_holds rows))

pub left_begin : (old new : StoredLocks) → (new ≡ []) ⊎ (new ≡ old) → begins_by old new ≡ false
left_begin old new (inl none) = ap (begins_by old) none
left_begin old new (inr same) = ap (begins_by old) same ∙ same_begin old

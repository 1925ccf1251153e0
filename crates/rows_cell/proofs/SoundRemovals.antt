-- A node that goes leaves the rows sound.
use Rattle.std.proofs.Common.{◌≡◌, ℕ, suc, ◌+◌, ◌≤◌, List, [], ◌∷◌, length, Bool, true, false, cond, Option, Some, None, Ordering, refl, sym, ap, subst, ◌∙◌, arith}
use Rattle.std.specs.Prelude.{◌&&◌, ◌||◌, ◌==◌, not, nat_le, map, filter, take, is_none}
use Rattle.std.specs.Option.{option_map_or}
use Rattle.std.specs.Ordering.{nat_cmp}
use Rattle.std.specs.Cmp.Lexicographic.{slice_cmp}
use Rattle.std.specs.List.{list_all, list_any, before_first, position_or_len}
use Rattle.std.specs.Map.{lookup, remove_entry}
use Rattle.std.specs.BTreeMap.{is_at}
use Rattle.std.specs.Str.{bytes_eq}
use Rattle.std.proofs.lemmas.Bool.{and_parts, and_from, or_parts, or_from, not-true, not_from_false}
use Rattle.std.proofs.lemmas.Bool.Decides.{nat_tests}
use Rattle.std.proofs.lemmas.Map.Lookups.{CmpEqualImpliesEq, exact_bytes}
use Rattle.std.proofs.lemmas.Slice.Eq.{bytes_eq-Decides}
use Rattle.names_cell.specs.Text.{is_slash, front_of, parent_of, cell_of, root_of, is_child}
use Rattle.node_core.specs.Nodes.{has_children}
use Rattle.collections.proofs.Entries.{eq_at}
use Rattle.rows_cell.specs.declared.tables.StoredNode.{StoredNode}
use Rattle.rows_cell.specs.declared.tables.LockRow.{LockRow}
use Rattle.rows_cell.specs.declared.tables.LockState.{LockState}
use Rattle.rows_cell.specs.declared.tables.LockState.TheVariants.{Lapsed, Exclusive, Shared}
use Rattle.rows_cell.specs.declared.keys.LockKey.{LockKey}
use Rattle.rows_cell.specs.declared.tables.Rows.{Rows}
use Rattle.rows_cell.specs.declared.tables.Edit.TheVariants.{NextInstance, RemoveNode}
use Rattle.rows_cell.specs.Rows.{StoredNodes, StoredLocks, stored_node, nodes_of, map_of, without_locks_of, changed_rows}
use Rattle.rows_cell.specs.Sound.{sound, is_number, is_directory, is_directory_at, numbers_fit, content_fits, parent_fits, node_fits, are_distinct, is_live_in, holder_fits, is_shared, beside, state_fits, lock_fits}
use Rattle.rows_cell.proofs.OpeningRows.{equal_bytes}
use Rattle.rows_cell.proofs.PutEntries.{all_more, all_found}
use Rattle.rows_cell.proofs.SoundParts.{SoundParts, five_parts, has_instance, parts_of, sound_of, node_stays}

-- ---- tests of all entries, of some entry, and of distinct numbers, where one entry goes

-- a test that follows from two others
pub all_from_both : {X : Type 0} (p q r : X → Bool) (xs : List X) → ((x : X) → p x ≡ true → q x ≡ true → r x ≡ true) → list_all p xs ≡ true → list_all q xs ≡ true → list_all r xs ≡ true
all_from_both p q r [] h ps qs = refl
all_from_both p q r (x ∷ xs) h ps qs =
    let t = and_parts (p x) (list_all p xs) ps in
    let u = and_parts (q x) (list_all q xs) qs in
    and_from (r x) (list_all r xs) (h x t.0 u.0) (all_from_both p q r xs h t.1 u.1)

-- what a filter lets through passes a test, where each that it lets through did another
pub all_let_through : {X : Type 0} (keep p q : X → Bool) (xs : List X) → ((x : X) → keep x ≡ true → p x ≡ true → q x ≡ true) → list_all p xs ≡ true → list_all q (filter keep xs) ≡ true
all_let_through keep p q [] h all = refl
all_let_through {X} keep p q (x ∷ xs) h all =
    let t = and_parts (p x) (list_all p xs) all in
    let rest : list_all q (filter keep xs) ≡ true = all_let_through keep p q xs h t.1 in
    (elim (keep x) as (λ b. keep x ≡ b → list_all q (cond b (x ∷ filter keep xs) (filter keep xs)) ≡ true) [
      | true ↦ (λ e. and_from (q x) (list_all q (filter keep xs)) (h x e t.0) rest)
      | false ↦ (λ e. rest)
    ]) refl

pub all_gone : {K V : Type 0} (test : K → Bool) (p : K × V → Bool) (es : List (K × V)) → list_all p es ≡ true → list_all p (remove_entry test es) ≡ true
all_gone test p [] h = refl
all_gone {K} {V} test p (e ∷ es) h =
    let t = and_parts (p e) (list_all p es) h in
    elim (test e.0) as (λ b. list_all p (cond b es (e ∷ remove_entry test es)) ≡ true) [
      | true ↦ t.1
      | false ↦ and_from (p e) (list_all p (remove_entry test es)) t.0 (all_gone test p es t.1)
    ]

-- some value still passes, where the one that goes does not
pub any_gone : {K V : Type 0} (test : K → Bool) (p : V → Bool) (es : List (K × V)) → ((w : V) → lookup test es ≡ Some w → p w ≡ false) → list_any (λ e. p e.1) es ≡ true → list_any (λ e. p e.1) (remove_entry test es) ≡ true
any_gone test p [] fails h = h
any_gone {K} {V} test p (e ∷ es) fails h =
    let any : List (K × V) → Bool = list_any (λ x. p x.1) in
    (elim (test e.0) as (λ b. ((w : V) → cond b (Some e.1) (lookup test es) ≡ Some w → p w ≡ false) → any (cond b es (e ∷ remove_entry test es)) ≡ true) [
      | true ↦ (λ f. let no : p e.1 ≡ false = f e.1 refl in rw no at h)
      | false ↦ (λ f.
          (elim (p e.1) as (λ b. (b || any es) ≡ true → (b || any (remove_entry test es)) ≡ true) [
            | true ↦ (λ k. refl)
            | false ↦ (λ k. any_gone test p es f k)
          ]) h)
    ]) fails

other_left : {K V : Type 0} (test : K → Bool) (number : V → ℕ) (n : ℕ) (es : List (K × V)) → list_any (λ m. m == n) (map (λ e. number e.1) es) ≡ false → list_any (λ m. m == n) (map (λ e. number e.1) (remove_entry test es)) ≡ false
other_left test number n [] h = refl
other_left {K} {V} test number n (e ∷ es) h =
    let any : List (K × V) → Bool = λ xs. list_any (λ m. m == n) (map (λ x. number x.1) xs) in
    let t = or_parts (number e.1 == n) (any es) h in
    elim (test e.0) as (λ b. any (cond b es (e ∷ remove_entry test es)) ≡ false) [
      | true ↦ t.1
      | false ↦ or_from (number e.1 == n) (any (remove_entry test es)) t.0 (other_left test number n es t.1)
    ]

-- numbers that were distinct stay so
distinct_gone : {K V : Type 0} (test : K → Bool) (number : V → ℕ) (es : List (K × V)) → are_distinct (map (λ e. number e.1) es) ≡ true → are_distinct (map (λ e. number e.1) (remove_entry test es)) ≡ true
distinct_gone test number [] h = refl
distinct_gone {K} {V} test number (e ∷ es) h =
    let numbers : List (K × V) → List ℕ = map (λ x. number x.1) in
    let any : List (K × V) → Bool = λ xs. list_any (λ m. m == number e.1) (numbers xs) in
    let t = and_parts (not (any es)) (are_distinct (numbers es)) h in
    elim (test e.0) as (λ b. are_distinct (numbers (cond b es (e ∷ remove_entry test es))) ≡ true) [
      | true ↦ t.1
      | false ↦ and_from (not (any (remove_entry test es))) (are_distinct (numbers (remove_entry test es)))
          (not_from_false (any (remove_entry test es)) (other_left test number (number e.1) es (not-true (any es) t.0)))
          (distinct_gone test number es t.1)
    ]

-- what is found at other keys stays
pub lookup_elsewhere : {K V : Type 0} (cmp : K → K → Ordering) → CmpEqualImpliesEq cmp → (es : List (K × V)) (k q : K) → (q ≡ k → ⊥) → lookup (is_at (cmp q)) (remove_entry (is_at (cmp k)) es) ≡ lookup (is_at (cmp q)) es
lookup_elsewhere cmp exact [] k q other = refl
lookup_elsewhere {K} {V} cmp exact (e ∷ es) k q other =
    let found : List (K × V) → Option V = lookup (is_at (cmp q)) in
    let at : K → Bool = is_at (cmp q) in
    (elim (is_at (cmp k) e.0) as (λ b. is_at (cmp k) e.0 ≡ b → found (cond b es (e ∷ remove_entry (is_at (cmp k)) es)) ≡ cond (at e.0) (Some e.1) (found es)) [
      | true ↦ (λ c.
          (elim (at e.0) as (λ b. at e.0 ≡ b → found es ≡ cond b (Some e.1) (found es)) [
            | true ↦ (λ d. absurd (other (exact q e.0 (eq_at (cmp q e.0) d) ∙ sym (exact k e.0 (eq_at (cmp k e.0) c)))))
            | false ↦ (λ d. refl)
          ]) refl)
      | false ↦ (λ c. ap (λ o. cond (at e.0) (Some e.1) o) (lookup_elsewhere cmp exact es k q other))
    ]) refl

-- ---- directories

front_more : (b n : ℕ) (bs : List ℕ) → take (1 + n) (b ∷ bs) ≡ b ∷ take n bs
front_more b n bs = let e : 1 + n ≡ suc n = omega arith in rw e refl

-- a text that stands whole before its first slash has none
no_front : (bs : List ℕ) → before_first is_slash bs ≡ bs → front_of bs ≡ None
no_front [] h = refl
no_front (b ∷ bs) h =
    let n : ℕ = position_or_len is_slash bs in
    (elim (is_slash b) as (λ v. is_slash b ≡ v → take (cond (not v) (1 + n) 0) (b ∷ bs) ≡ b ∷ bs → front_of (b ∷ bs) ≡ None) [
      | true ↦ (λ e k. cc)
      | false ↦ (λ e k.
          let whole : b ∷ before_first is_slash bs ≡ b ∷ bs = sym (front_more b n bs) ∙ k in
          let rest : before_first is_slash bs ≡ bs = cc in
          let front : front_of bs ≡ None = no_front bs rest in rw (front, e) refl)
    ]) refl h

-- no node is a child of this one
no_child_of : (nodes : StoredNodes) (name : List ℕ) → has_children (nodes_of nodes) name ≡ false → list_all (λ e. not (is_child e.0 name)) nodes ≡ true
no_child_of [] name h = refl
no_child_of (e ∷ es) name h =
    let t = or_parts (is_child e.0 name) (has_children (nodes_of es) name) h in
    and_from (not (is_child e.0 name)) (list_all (λ x. not (is_child x.0 name)) es) (not_from_false (is_child e.0 name) t.0) (no_child_of es name t.1)

abbrev without : StoredNodes → List ℕ → StoredNodes
without nodes name = remove_entry (is_at (slice_cmp nat_cmp name)) nodes

-- other names keep their nodes
directory_left : (nodes : StoredNodes) (name q : List ℕ) → (q ≡ name → ⊥) → is_directory_at nodes q ≡ true → is_directory_at (without nodes name) q ≡ true
directory_left nodes name q other h = rw (lookup_elsewhere (slice_cmp nat_cmp) exact_bytes nodes name q other) h

differ : (p name : List ℕ) → not (bytes_eq p name) ≡ true → p ≡ name → ⊥
differ p name h e = let same = equal_bytes name in cc

parent_left : (nodes : StoredNodes) (name q : List ℕ) → not (is_child q name) ≡ true → parent_fits nodes q ≡ true → parent_fits (without nodes name) q ≡ true
parent_left nodes name q no_child h =
    (elim (parent_of q) as (λ o. not (option_map_or (λ front. bytes_eq front name) o false) ≡ true → option_map_or (λ parent. is_directory_at nodes parent) o true ≡ true → option_map_or (λ parent. is_directory_at (without nodes name) parent) o true ≡ true) [
      | None ↦ (λ n k. refl)
      | Some parent ↦ (λ n k. directory_left nodes name parent (differ parent name n) k)
    ]) no_child h

named_of : (cell : List ℕ) (next : ℕ) (nodes : StoredNodes) (entry : List ℕ × StoredNode) → node_fits cell next nodes entry ≡ true → bytes_eq (cell_of entry.0) cell ≡ true
named_of cell next nodes entry h =
    let named : Bool = bytes_eq (cell_of entry.0) cell in
    let t = and_parts (named && parent_fits nodes entry.0 && numbers_fit next entry.1) (content_fits entry.1.node.kind entry.1.node) h in
    let u = and_parts (named && parent_fits nodes entry.0) (numbers_fit next entry.1) t.0 in
    (and_parts named (parent_fits nodes entry.0) u.0).0

-- the root's cell is the text behind `/ls/`, so no slash stands there
no_parent : (cell : List ℕ) (rows : Rows) → SoundParts cell rows → parent_of (root_of cell) ≡ None
no_parent cell rows p =
    (elim (stored_node rows.nodes (root_of cell)) as (λ o. stored_node rows.nodes (root_of cell) ≡ o → option_map_or (λ (node : StoredNode). is_directory node.node.kind) o false ≡ true → parent_of (root_of cell) ≡ None) [
      | None ↦ (λ e h. cc)
      | Some root ↦ (λ e h.
          let fits = all_found (slice_cmp nat_cmp) exact_bytes (node_fits cell rows.next_instance rows.nodes) rows.nodes (root_of cell) root p.nodes e in
          let named : bytes_eq (cell_of (root_of cell)) cell ≡ true = named_of cell rows.next_instance rows.nodes (root_of cell, root) fits in
          let whole : before_first is_slash cell ≡ cell = (bytes_eq-Decides (cell_of (root_of cell)) cell).0 named in
          rw (no_front cell whole) refl)
    ]) refl p.root

-- ---- locks

turned : (a b : ℕ) → not (a == b) ≡ true → (b == a) ≡ false
turned a b h = grind (arith, nat_tests)

apart : (a b n : ℕ) → (a == n) ≡ true → not (b == n) ≡ true → (a == b) ≡ false
apart a b n e h = grind (arith, nat_tests)

-- the rows of a lock's node stay, where those of another node go
beside_left : (locks : StoredLocks) (key : LockKey) (n : ℕ) → not (key.instance == n) ≡ true → beside (filter (λ e. not (e.0.instance == n)) locks) key ≡ beside locks key
beside_left [] key n h = refl
beside_left (e ∷ es) key n h =
    let others : StoredLocks = filter (λ x. not (x.0.instance == n)) es in
    (elim (e.0.instance == n) as (λ b. (e.0.instance == n) ≡ b → beside (cond (not b) (e ∷ others) others) key ≡ beside (e ∷ es) key) [
      | true ↦ (λ k. rw (apart e.0.instance key.instance n k h) (beside_left es key n h))
      | false ↦ (λ k. ap (λ xs. cond (e.0.instance == key.instance) (e ∷ xs) xs) (beside_left es key n h))
    ]) refl

state_left : (rows new : Rows) (key : LockKey) (state : LockState) → beside new.locks key ≡ beside rows.locks key → (holder_fits rows key ≡ true → holder_fits new key ≡ true) → state_fits rows key state ≡ true → state_fits new key state ≡ true
state_left rows new key Exclusive same holder h =
    let t = and_parts (length (beside rows.locks key) == 1) (holder_fits rows key) h in
    and_from (length (beside new.locks key) == 1) (holder_fits new key) (rw same t.0) (holder t.1)
state_left rows new key Shared same holder h =
    let t = and_parts (list_all (λ e. is_shared e.1.state) (beside rows.locks key)) (holder_fits rows key) h in
    and_from (list_all (λ e. is_shared e.1.state) (beside new.locks key)) (holder_fits new key) (rw same t.0) (holder t.1)
state_left rows new key Lapsed same holder h = rw same h

pub lock_left : (rows new : Rows) (entry : LockKey × LockRow) → beside new.locks entry.0 ≡ beside rows.locks entry.0 → (has_instance rows.nodes entry.0.instance ≡ true → has_instance new.nodes entry.0.instance ≡ true) → (holder_fits rows entry.0 ≡ true → holder_fits new entry.0 ≡ true) → lock_fits rows entry ≡ true → lock_fits new entry ≡ true
lock_left rows new entry same there holder h =
    let t = five_parts (has_instance rows.nodes entry.0.instance) (is_number entry.0.client) (is_number entry.0.handle) (nat_le entry.1.delay 60000) (state_fits rows entry.0 entry.1.state) h in
    rw (there t.0, t.1, t.2, t.3) (state_left rows new entry.0 entry.1.state same holder t.4)

-- ---- a node that goes

-- what a node needs that goes, where the next instance rises
pub record GoneFits (rows : Rows) (name : List ℕ) (next : ℕ) : Type 0 where
  pub least : rows.next_instance ≤ next
  pub most : is_number next ≡ true
  pub no_children : has_children (map_of rows) name ≡ false
  pub no_root : is_none (parent_of name) ≡ false

module _ (cell : List ℕ) (rows : Rows) (name : List ℕ) (next : ℕ) (parts : SoundParts cell rows) (fits : GoneFits rows name next) where
  -- the rows without the node that stood at the name
  abbrev after_gone : Option StoredNode → Rows
  after_gone former = record rows { nodes = without rows.nodes name; locks = without_locks_of former rows.locks; next_instance = next }

  root_left : is_directory_at (without rows.nodes name) (root_of cell) ≡ true
  root_left =
      let none = no_parent cell rows parts in
      let no_root = fits.no_root in
      let other : root_of cell ≡ name → ⊥ = λ e. let P : List ℕ → Type 0 = λ q. parent_of q ≡ None in let no : parent_of name ≡ None = subst P e none in cc in
      directory_left rows.nodes name (root_of cell) other parts.root

  nodes_left : list_all (node_fits cell next (without rows.nodes name)) (without rows.nodes name) ≡ true
  nodes_left =
      let childless : List ℕ × StoredNode → Bool = λ e. not (is_child e.0 name) in
      all_gone (is_at (slice_cmp nat_cmp name)) (node_fits cell next (without rows.nodes name)) rows.nodes
      (all_from_both (node_fits cell rows.next_instance rows.nodes) childless (node_fits cell next (without rows.nodes name)) rows.nodes
      (λ e h no_child. node_stays cell rows.next_instance next rows.nodes (without rows.nodes name) e fits.least (parent_left rows.nodes name e.0 no_child) h)
      parts.nodes (no_child_of rows.nodes name fits.no_children))

  -- the locks of other nodes
  other_lock : (former : Option StoredNode) (entry : LockKey × LockRow) → beside (without_locks_of former rows.locks) entry.0 ≡ beside rows.locks entry.0 → ((w : StoredNode) → stored_node rows.nodes name ≡ Some w → (w.node.instance == entry.0.instance) ≡ false) → lock_fits rows entry ≡ true → lock_fits (after_gone former) entry ≡ true
  other_lock former entry same other h =
      let at : List ℕ → Bool = is_at (slice_cmp nat_cmp name) in
      let some : StoredNodes → Bool = list_any (λ e. e.1.node.instance == entry.0.instance && nat_le 1 e.1.lock_generation) in
      let holder : holder_fits rows entry.0 ≡ true → holder_fits (after_gone former) entry.0 ≡ true = λ k.
      let t = and_parts (some rows.nodes) (is_live_in rows entry.0.client) k in
      and_from (some (without rows.nodes name)) (is_live_in rows entry.0.client)
      (any_gone at (λ (node : StoredNode). node.node.instance == entry.0.instance && nat_le 1 node.lock_generation) rows.nodes (λ w e. rw (other w e) refl) t.0) t.1 in
      lock_left rows (after_gone former) entry same (any_gone at (λ (node : StoredNode). node.node.instance == entry.0.instance) rows.nodes other) holder h

  locks_left : list_all (lock_fits (after_gone (stored_node rows.nodes name))) (without_locks_of (stored_node rows.nodes name) rows.locks) ≡ true
  locks_left =
      (elim (stored_node rows.nodes name) as (λ o. stored_node rows.nodes name ≡ o → list_all (lock_fits (after_gone o)) (without_locks_of o rows.locks) ≡ true) [
        | None ↦ (λ e. all_more (lock_fits rows) (lock_fits (after_gone None)) rows.locks (λ entry. other_lock None entry refl (λ w f. cc)) parts.locks)
        | Some node ↦ (λ e.
            let keep : LockKey × LockRow → Bool = λ entry. not (entry.0.instance == node.node.instance) in
            all_let_through keep (lock_fits rows) (lock_fits (after_gone (Some node))) rows.locks
            (λ entry kept. other_lock (Some node) entry (beside_left rows.locks entry.0 node.node.instance kept)
            (λ w f. let same : node ≡ w = cc in rw (← same) (turned entry.0.instance node.node.instance kept))) parts.locks)
      ]) refl

-- a node without children that is not the root may go, with its locks. The order of the names does not matter, nor whether the node is there
pub gone_sound : (cell : List ℕ) (rows : Rows) (name : List ℕ) (next : ℕ) → sound cell rows ≡ true → GoneFits rows name next → sound cell (changed_rows rows (RemoveNode name ∷ NextInstance next ∷ [])) ≡ true
gone_sound cell rows name next h fits =
    let p = parts_of cell rows h in
    sound_of cell (after_gone cell rows name next p fits (stored_node rows.nodes name)) (record {
      named = p.named;
      epoch = p.epoch;
      next = fits.most;
      root = root_left cell rows name next p fits;
      nodes = nodes_left cell rows name next p fits;
      distinct = distinct_gone (is_at (slice_cmp nat_cmp name)) (λ (node : StoredNode). node.node.instance) rows.nodes p.distinct;
      sessions = p.sessions;
      locks = locks_left cell rows name next p fits;
    })

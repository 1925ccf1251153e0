-- The parts of the whole test of rows, and what leaves them true.
use Rattle.std.proofs.Common.{◌≡◌, ℕ, ◌≤◌, List, length, Bool, true, refl, sym, subst, arith}
use Rattle.std.specs.Prelude.{◌&&◌, ◌==◌, nat_lt, nat_le, map}
use Rattle.std.specs.List.{list_all, list_any}
use Rattle.std.specs.Str.{bytes_eq}
use Rattle.std.proofs.lemmas.Bool.{and_parts, and_from}
use Rattle.std.proofs.lemmas.Bool.Decides.{nat_tests}
use Rattle.names_cell.specs.Text.{cell_of, root_of}
use Rattle.rows_cell.specs.declared.tables.StoredNode.{StoredNode}
use Rattle.rows_cell.specs.declared.tables.LockRow.{LockRow}
use Rattle.rows_cell.specs.declared.tables.LockState.{LockState}
use Rattle.rows_cell.specs.declared.tables.LockState.TheVariants.{Lapsed, Exclusive, Shared}
use Rattle.rows_cell.specs.declared.keys.LockKey.{LockKey}
use Rattle.rows_cell.specs.declared.tables.Rows.{Rows}
use Rattle.rows_cell.specs.Rows.{StoredNodes, StoredLocks}
use Rattle.rows_cell.specs.Sound.{sound, is_number, is_directory_at, numbers_fit, content_fits, parent_fits, node_fits, nodes_fit, are_distinct, holder_fits, is_shared, beside, state_fits, lock_fits}
use Rattle.rows_cell.proofs.PutEntries.{all_more}

four_parts : (a b c d : Bool) → (a && b && c && d) ≡ true → (a ≡ true) × (b ≡ true) × (c ≡ true) × (d ≡ true)
four_parts true true true true h = (refl, refl, refl, refl)
four_parts _ _ _ _ h = cc

pub five_parts : (a b c d e : Bool) → (a && b && c && d && e) ≡ true → (a ≡ true) × (b ≡ true) × (c ≡ true) × (d ≡ true) × (e ≡ true)
five_parts true true true true true h = (refl, refl, refl, refl, refl)
five_parts _ _ _ _ _ h = cc

six_parts : (a b c d e f : Bool) → (a && b && c && d && e && f) ≡ true → (a ≡ true) × (b ≡ true) × (c ≡ true) × (d ≡ true) × (e ≡ true) × (f ≡ true)
six_parts true true true true true true h = (refl, refl, refl, refl, refl, refl)
six_parts _ _ _ _ _ _ h = cc

abbrev pub instances : StoredNodes → List ℕ
instances nodes = map (λ e. e.1.node.instance) nodes

-- the parts of the whole test
pub record SoundParts (cell : List ℕ) (rows : Rows) : Type 0 where
  pub named : bytes_eq rows.cell cell ≡ true
  pub epoch : is_number rows.epoch ≡ true
  pub next : is_number rows.next_instance ≡ true
  pub root : is_directory_at rows.nodes (root_of cell) ≡ true
  pub nodes : list_all (node_fits cell rows.next_instance rows.nodes) rows.nodes ≡ true
  pub distinct : are_distinct (instances rows.nodes) ≡ true
  pub sessions : list_all (λ e. is_number e.0) rows.sessions ≡ true
  pub locks : list_all (lock_fits rows) rows.locks ≡ true

pub parts_of : (cell : List ℕ) (rows : Rows) → sound cell rows ≡ true → SoundParts cell rows
parts_of cell rows h =
    let s = six_parts (bytes_eq rows.cell cell) (is_number rows.epoch) (is_number rows.next_instance) (nodes_fit cell rows.next_instance rows.nodes) (list_all (λ e. is_number e.0) rows.sessions) (list_all (lock_fits rows) rows.locks) h in
    let n = and_parts (is_directory_at rows.nodes (root_of cell) && list_all (node_fits cell rows.next_instance rows.nodes) rows.nodes) (are_distinct (instances rows.nodes)) s.3 in
    let m = and_parts (is_directory_at rows.nodes (root_of cell)) (list_all (node_fits cell rows.next_instance rows.nodes) rows.nodes) n.0 in
    record { named = s.0; epoch = s.1; next = s.2; root = m.0; nodes = m.1; distinct = n.1; sessions = s.4; locks = s.5 }

pub sound_of : (cell : List ℕ) (rows : Rows) → SoundParts cell rows → sound cell rows ≡ true
sound_of cell rows p = rw (p.named, p.epoch, p.next, p.root, p.nodes, p.distinct, p.sessions, p.locks) refl

-- ---- nodes, where others change

numbers_stay : (least next : ℕ) (node : StoredNode) → least ≤ next → numbers_fit least node ≡ true → numbers_fit next node ≡ true
numbers_stay least next node le h = grind (arith, nat_tests)

-- a node that fits still fits, where parents stay directories and the next instance rises
pub node_stays : (cell : List ℕ) (least next : ℕ) (nodes new : StoredNodes) (entry : List ℕ × StoredNode) → least ≤ next → (parent_fits nodes entry.0 ≡ true → parent_fits new entry.0 ≡ true) → node_fits cell least nodes entry ≡ true → node_fits cell next new entry ≡ true
node_stays cell least next nodes new entry le parent h =
    let t = four_parts (bytes_eq (cell_of entry.0) cell) (parent_fits nodes entry.0) (numbers_fit least entry.1) (content_fits entry.1.node.kind entry.1.node) h in
    rw (t.0, parent t.1, numbers_stay least next entry.1 le t.2, t.3) refl

-- the numbers of a node that fits
pub numbers_of : (cell : List ℕ) (next : ℕ) (nodes : StoredNodes) (entry : List ℕ × StoredNode) → node_fits cell next nodes entry ≡ true → (nat_lt entry.1.node.instance next ≡ true) × (is_number entry.1.lock_generation ≡ true)
numbers_of cell next nodes entry h =
    let t = four_parts (bytes_eq (cell_of entry.0) cell) (parent_fits nodes entry.0) (numbers_fit next entry.1) (content_fits entry.1.node.kind entry.1.node) h in
    let n = five_parts (nat_le 1 entry.1.node.instance) (nat_lt entry.1.node.instance next) (is_number entry.1.node.content_generation) (is_number entry.1.node.acl_generation) (is_number entry.1.lock_generation) t.2 in
    (n.1, n.4)

-- ---- locks, where nodes and sessions change

state_stays : (rows new : Rows) (key : LockKey) (state : LockState) → new.locks ≡ rows.locks → (holder_fits rows key ≡ true → holder_fits new key ≡ true) → state_fits rows key state ≡ true → state_fits new key state ≡ true
state_stays rows new key Exclusive same holder h =
    let t = and_parts (length (beside rows.locks key) == 1) (holder_fits rows key) h in
    and_from (length (beside new.locks key) == 1) (holder_fits new key) (rw same t.0) (holder t.1)
state_stays rows new key Shared same holder h =
    let t = and_parts (list_all (λ e. is_shared e.1.state) (beside rows.locks key)) (holder_fits rows key) h in
    and_from (list_all (λ e. is_shared e.1.state) (beside new.locks key)) (holder_fits new key) (rw same t.0) (holder t.1)
state_stays rows new key Lapsed same holder h = rw same h

abbrev pub has_instance : StoredNodes → ℕ → Bool
has_instance nodes n = list_any (λ e. e.1.node.instance == n) nodes

lock_stays : (rows new : Rows) (entry : LockKey × LockRow) → new.locks ≡ rows.locks → (has_instance rows.nodes entry.0.instance ≡ true → has_instance new.nodes entry.0.instance ≡ true) → (holder_fits rows entry.0 ≡ true → holder_fits new entry.0 ≡ true) → lock_fits rows entry ≡ true → lock_fits new entry ≡ true
lock_stays rows new entry same there holder h =
    let t = five_parts (has_instance rows.nodes entry.0.instance) (is_number entry.0.client) (is_number entry.0.handle) (nat_le entry.1.delay 60000) (state_fits rows entry.0 entry.1.state) h in
    rw (there t.0, t.1, t.2, t.3) (state_stays rows new entry.0 entry.1.state same holder t.4)

-- the locks fit where each node that had a lock still has it, and each live session is still live
pub locks_stay : (rows new : Rows) → new.locks ≡ rows.locks → ((n : ℕ) → has_instance rows.nodes n ≡ true → has_instance new.nodes n ≡ true) → ((key : LockKey) → holder_fits rows key ≡ true → holder_fits new key ≡ true) → list_all (lock_fits rows) rows.locks ≡ true → list_all (lock_fits new) new.locks ≡ true
locks_stay rows new same there holder h =
    let P : StoredLocks → Type 0 = λ locks. list_all (lock_fits new) locks ≡ true in
    subst P (sym same) (all_more (lock_fits rows) (lock_fits new) rows.locks (λ e. lock_stays rows new e same (there e.0.instance) (holder e.0)) h)

-- What keeps rows sound.
use Rattle.std.proofs.Common.{◌≡◌, ℕ, ◌+◌, ◌-◌, ◌^◌, ◌≤◌, List, [], ◌∷◌, Bool, true, false, cond, Some, None, refl, sym, arith}
use Rattle.std.specs.Prelude.{◌&&◌, ◌==◌, nat_lt, nat_le}
use Rattle.std.specs.Option.{option_map_or}
use Rattle.std.specs.Ordering.{nat_cmp}
use Rattle.std.specs.Cmp.{nat_cmp_total, tied_itself}
use Rattle.std.specs.Cmp.Lexicographic.{slice_cmp, nat_list_cmp_total}
use Rattle.std.specs.List.{list_all, list_any}
use Rattle.std.specs.List.Sorted.{IsStrictlySortedBy}
use Rattle.std.specs.Map.{keys_of, lookup}
use Rattle.std.specs.BTreeMap.{is_at, insert_entry}
use Rattle.std.specs.Str.{bytes_eq}
use Rattle.std.proofs.lemmas.Bool.{and_parts, and_from, eqb-true, leb-true}
use Rattle.std.proofs.lemmas.Bool.Decides.{nat_tests}
use Rattle.std.proofs.lemmas.Map.Lookups.{exact_bytes, exact_unsigned}
use Rattle.std.proofs.lemmas.Slice.Eq.{bytes_eq-Decides}
use Rattle.names_cell.specs.Text.{parent_of, cell_of, root_of}
use Rattle.node_core.specs.declared.nodes.Node.{Node}
use Rattle.collections.proofs.Entries.{lookup_put, eq_at}
use Rattle.rows_cell.specs.declared.tables.StoredNode.{StoredNode}
use Rattle.rows_cell.specs.declared.tables.SessionRow.{SessionRow}
use Rattle.rows_cell.specs.declared.keys.LockKey.{LockKey}
use Rattle.rows_cell.specs.declared.tables.Rows.{Rows}
use Rattle.rows_cell.specs.declared.tables.Edit.TheVariants.{Epoch, NextInstance, PutNode, PutSession}
use Rattle.rows_cell.specs.Rows.{StoredNodes, stored_node, put_stored, changed_rows}
use Rattle.rows_cell.specs.Sound.{sound, is_number, is_directory, is_directory_at, content_fits, parent_fits, node_fits, are_distinct, is_live_in, holder_fits}
use Rattle.rows_cell.proofs.OpeningRows.{bytes_same}
use Rattle.rows_cell.proofs.PutEntries.{all_more, all_put, all_found, any_put, numbers_same, numbers_distinct}
use Rattle.rows_cell.proofs.SoundParts.{SoundParts, instances, has_instance, parts_of, sound_of, node_stays, numbers_of, locks_stay}

pub sound_numbers : (cell : List ℕ) (rows : Rows) → sound cell rows ≡ true → (bytes_eq rows.cell cell ≡ true) × (is_number rows.epoch ≡ true) × (is_number rows.next_instance ≡ true)
sound_numbers cell rows h = let p = parts_of cell rows h in (p.named, p.epoch, p.next)

-- a node that stands at a name fits
pub found_fits : (cell : List ℕ) (rows : Rows) (name : List ℕ) (node : StoredNode) → sound cell rows ≡ true → stored_node rows.nodes name ≡ Some node → node_fits cell rows.next_instance rows.nodes (name, node) ≡ true
found_fits cell rows name node h found =
    all_found (slice_cmp nat_cmp) exact_bytes (node_fits cell rows.next_instance rows.nodes) rows.nodes name node (parts_of cell rows h).nodes found

-- ---- the epoch, and sessions

pub epoch_sound : (cell : List ℕ) (rows : Rows) → sound cell rows ≡ true → nat_lt rows.epoch (2 ^ 63 - 1) ≡ true → sound cell (changed_rows rows (Epoch (rows.epoch + 1) ∷ [])) ≡ true
epoch_sound cell rows h below =
    let p = parts_of cell rows h in
    let new : Rows = record rows { epoch = rows.epoch + 1 } in
    let more : is_number (rows.epoch + 1) ≡ true = grind (arith, nat_tests) in
    sound_of cell new (record {
      named = p.named;
      epoch = more;
      next = p.next;
      root = p.root;
      nodes = p.nodes;
      distinct = p.distinct;
      sessions = p.sessions;
      locks = locks_stay rows new refl (λ n k. k) (λ key k. k) p.locks;
    })

live_stays : (rows : Rows) (client : ℕ) (session : SessionRow) (q : ℕ) → session.live ≡ true → is_live_in rows q ≡ true → is_live_in (record rows { sessions = insert_entry nat_cmp rows.sessions client session }) q ≡ true
live_stays rows client session q live h =
    rw (lookup_put nat_cmp exact_unsigned (tied_itself nat_cmp_total) rows.sessions client session q)
    (elim (is_at (nat_cmp q) client) as (λ b. option_map_or (λ (s : SessionRow). s.live) (cond b (Some session) (lookup (is_at (nat_cmp q)) rows.sessions)) false ≡ true) [ true ↦ live | false ↦ h ])

pub session_sound : (cell : List ℕ) (rows : Rows) (client : ℕ) (principal : List ℕ) → sound cell rows ≡ true → is_number client ≡ true → sound cell (changed_rows rows (PutSession client (record { principal = principal; live = true }) ∷ [])) ≡ true
session_sound cell rows client principal h number =
    let p = parts_of cell rows h in
    let session : SessionRow = record { principal = principal; live = true } in
    let new : Rows = record rows { sessions = insert_entry nat_cmp rows.sessions client session } in
    let held : (key : LockKey) → Bool = λ key. list_any (λ e. e.1.node.instance == key.instance && nat_le 1 e.1.lock_generation) rows.nodes in
    let holder : (key : LockKey) → holder_fits rows key ≡ true → holder_fits new key ≡ true = λ key k.
    let t = and_parts (held key) (is_live_in rows key.client) k in
    and_from (held key) (is_live_in new key.client) t.0 (live_stays rows client session key.client refl t.1) in
    sound_of cell new (record {
      named = p.named;
      epoch = p.epoch;
      next = p.next;
      root = p.root;
      nodes = p.nodes;
      distinct = p.distinct;
      sessions = all_put nat_cmp exact_unsigned (λ e. is_number e.0) rows.sessions client session p.sessions number;
      locks = locks_stay rows new refl (λ n k. k) holder p.locks;
    })

-- ---- a put

-- what a node needs that is put at a name, where the next instance rises. own: a node that is there keeps its instance, a new one has one that was not given out before
pub record PutFits (rows : Rows) (name : List ℕ) (node : Node) (next : ℕ) : Type 0 where
  pub least : rows.next_instance ≤ next
  pub most : is_number next ≡ true
  pub cell : bytes_eq (cell_of name) rows.cell ≡ true
  pub parent : parent_fits rows.nodes name ≡ true
  pub first : nat_le 1 node.instance ≡ true
  pub given : nat_lt node.instance next ≡ true
  pub content_number : is_number node.content_generation ≡ true
  pub acl_number : is_number node.acl_generation ≡ true
  pub content : content_fits node.kind node ≡ true
  pub kind : is_directory_at rows.nodes name ≡ true → is_directory node.kind ≡ true
  pub own : option_map_or (λ (stored : StoredNode). stored.node.instance == node.instance) (stored_node rows.nodes name) (nat_le rows.next_instance node.instance) ≡ true

-- the node that is put
abbrev node_of : StoredNodes → List ℕ → Node → StoredNode
node_of nodes name node = record { node = node; lock_generation = option_map_or (λ (stored : StoredNode). stored.lock_generation) (stored_node nodes name) 0 }

-- where a directory was, one is
directory_stays : (nodes : StoredNodes) (name : List ℕ) (node : Node) → (is_directory_at nodes name ≡ true → is_directory node.kind ≡ true) → (q : List ℕ) → is_directory_at nodes q ≡ true → is_directory_at (put_stored nodes name node) q ≡ true
directory_stays nodes name node kind q h =
    rw (lookup_put (slice_cmp nat_cmp) exact_bytes bytes_same nodes name (node_of nodes name node) q)
    ((elim (is_at (slice_cmp nat_cmp q) name) as (λ b. is_at (slice_cmp nat_cmp q) name ≡ b → option_map_or (λ (stored : StoredNode). is_directory stored.node.kind) (cond b (Some (node_of nodes name node)) (stored_node nodes q)) false ≡ true) [
      | true ↦ (λ c. let s : q ≡ name = exact_bytes q name (eq_at (slice_cmp nat_cmp q name) c) in kind (rw s at h))
      | false ↦ (λ c. h)
    ]) refl)

parent_stays : (nodes : StoredNodes) (name : List ℕ) (node : Node) → (is_directory_at nodes name ≡ true → is_directory node.kind ≡ true) → (q : List ℕ) → parent_fits nodes q ≡ true → parent_fits (put_stored nodes name node) q ≡ true
parent_stays nodes name node kind q h =
    (elim (parent_of q) as (λ o. option_map_or (λ parent. is_directory_at nodes parent) o true ≡ true → option_map_or (λ parent. is_directory_at (put_stored nodes name node) parent) o true ≡ true)
    [ None ↦ (λ k. k) | Some parent ↦ (λ k. directory_stays nodes name node kind parent k) ]) h

module _ (cell : List ℕ) (rows : Rows) (name : List ℕ) (node : Node) (next : ℕ) (parts : SoundParts cell rows) (order : IsStrictlySortedBy (slice_cmp nat_cmp) (keys_of rows.nodes)) (fits : PutFits rows name node next) where
  abbrev put_nodes : StoredNodes
  put_nodes = put_stored rows.nodes name node

  abbrev put_node : StoredNode
  put_node = node_of rows.nodes name node

  same_instance : (w : StoredNode) → stored_node rows.nodes name ≡ Some w → node.instance ≡ w.node.instance
  same_instance w found =
      let e : (w.node.instance == node.instance) ≡ true = rw found at fits.own in
      sym (eqb-true w.node.instance node.instance e)

  there : (n : ℕ) → has_instance rows.nodes n ≡ true → has_instance put_nodes n ≡ true
  there n h =
      any_put (slice_cmp nat_cmp) (λ (stored : StoredNode). stored.node.instance == n) rows.nodes name put_node
      (λ w found k. rw (same_instance w found) k) h

  held : (key : LockKey) → holder_fits rows key ≡ true → holder_fits (record rows { nodes = put_nodes; next_instance = next }) key ≡ true
  held key h =
      let some : StoredNodes → Bool = list_any (λ e. e.1.node.instance == key.instance && nat_le 1 e.1.lock_generation) in
      let t = and_parts (some rows.nodes) (is_live_in rows key.client) h in
      let kept : some put_nodes ≡ true = any_put (slice_cmp nat_cmp) (λ (stored : StoredNode). stored.node.instance == key.instance && nat_le 1 stored.lock_generation) rows.nodes name put_node
      (λ w found k. rw (same_instance w found, found) k) t.0 in
      and_from (some put_nodes) (is_live_in rows key.client) kept t.1

  lock_number : is_number put_node.lock_generation ≡ true
  lock_number =
      (elim (stored_node rows.nodes name) as (λ o. stored_node rows.nodes name ≡ o → is_number (option_map_or (λ (stored : StoredNode). stored.lock_generation) o 0) ≡ true) [
        | None ↦ (λ e. refl)
        | Some w ↦ (λ e. (numbers_of cell rows.next_instance rows.nodes (name, w) (all_found (slice_cmp nat_cmp) exact_bytes (node_fits cell rows.next_instance rows.nodes) rows.nodes name w parts.nodes e)).1)
      ]) refl

  new_fits : node_fits cell next put_nodes (name, put_node) ≡ true
  new_fits =
      let same : rows.cell ≡ cell = (bytes_eq-Decides rows.cell cell).0 parts.named in
      let named : bytes_eq (cell_of name) cell ≡ true = rw same at fits.cell in
      rw (named, parent_stays rows.nodes name node fits.kind name fits.parent, fits.first, fits.given, fits.content_number, fits.acl_number, lock_number) fits.content

  nodes_stay : list_all (node_fits cell next put_nodes) put_nodes ≡ true
  nodes_stay =
      let old = all_more (node_fits cell rows.next_instance rows.nodes) (node_fits cell next put_nodes) rows.nodes
      (λ e. node_stays cell rows.next_instance next rows.nodes put_nodes e fits.least (parent_stays rows.nodes name node fits.kind e.0)) parts.nodes in
      all_put (slice_cmp nat_cmp) exact_bytes (node_fits cell next put_nodes) rows.nodes name put_node old new_fits

  instances_stay : are_distinct (instances put_nodes) ≡ true
  instances_stay =
      let number : StoredNode → ℕ = λ stored. stored.node.instance in
      (elim (stored_node rows.nodes name) as (λ o. stored_node rows.nodes name ≡ o → are_distinct (instances put_nodes) ≡ true) [
        | None ↦ (λ e.
            let past : nat_le rows.next_instance node.instance ≡ true = rw e at fits.own in
            let below : list_all (λ x. nat_lt (number x.1) rows.next_instance) rows.nodes ≡ true =
            all_more (node_fits cell rows.next_instance rows.nodes) (λ x. nat_lt (number x.1) rows.next_instance) rows.nodes (λ x k. (numbers_of cell rows.next_instance rows.nodes x k).0) parts.nodes in
            numbers_distinct (slice_cmp nat_cmp) number rows.next_instance rows.nodes name put_node below (leb-true rows.next_instance node.instance past) parts.distinct)
        | Some w ↦ (λ e. rw (numbers_same (slice_cmp nat_cmp) nat_list_cmp_total number rows.nodes name put_node w order e (same_instance w e)) parts.distinct)
      ]) refl

-- a node that fits keeps the rows sound. Out of order, a put could go before the node that stands at its name, and then two nodes would have one instance
pub put_sound : (cell : List ℕ) (rows : Rows) (name : List ℕ) (node : Node) (next : ℕ) → sound cell rows ≡ true → IsStrictlySortedBy (slice_cmp nat_cmp) (keys_of rows.nodes) → PutFits rows name node next → sound cell (changed_rows rows (PutNode name node ∷ NextInstance next ∷ [])) ≡ true
put_sound cell rows name node next h order fits =
    let p = parts_of cell rows h in
    let new : Rows = record rows { nodes = put_stored rows.nodes name node; next_instance = next } in
    sound_of cell new (record {
      named = p.named;
      epoch = p.epoch;
      next = fits.most;
      root = directory_stays rows.nodes name node fits.kind (root_of cell) p.root;
      nodes = nodes_stay cell rows name node next p order fits;
      distinct = instances_stay cell rows name node next p order fits;
      sessions = p.sessions;
      locks = locks_stay rows new refl (there cell rows name node next p order fits) (held cell rows name node next p order fits) p.locks;
    })

-- The nodes of locks that aren't idle: they are there, and each is found by its name.
use Rattle.std.proofs.Common.{◌≡◌, ℕ, ◌≤◌, List, [], ◌∷◌, Bool, true, false, cond, Ordering, Less, Option, Some, None, refl, sym, ap, subst, ◌∙◌}
use Rattle.std.specs.Prelude.{◌||◌, ◌==◌, filter, find, unwrap_or}
use Rattle.std.specs.Option.{option_map, option_map_or}
use Rattle.std.specs.List.{AllByRecursion, list_any}
use Rattle.std.specs.List.Sorted.{IsStrictlySortedBy}
use Rattle.std.specs.Map.{keys_of, lookup}
use Rattle.std.specs.BTreeMap.{is_at}
use Rattle.std.specs.Ordering.{nat_cmp, ordering_reverse, is_eq}
use Rattle.std.specs.Cmp.{IsTotalOrder, nat_cmp_total, tied_itself}
use Rattle.std.specs.Cmp.Lexicographic.{slice_cmp, nat_list_cmp_total}
use Rattle.std.proofs.lemmas.Bool.{eqb-true}
use Rattle.node_core.specs.declared.nodes.Node.{Node}
use Rattle.node_core.specs.Nodes.{Nodes, get_node}
use Rattle.rows_cell.specs.declared.tables.StoredNode.{StoredNode}
use Rattle.rows_cell.specs.declared.tables.Rows.{Rows}
use Rattle.rows_cell.specs.Rows.{stored_node, map_of}
use Rattle.rows_cell.proofs.RowNodes.{nodes_get, keys_of_nodes}
use Rattle.lock_core.specs.State.{LockState, lock_of}
use Rattle.lock_core.specs.Locks.{LockTable, lock_at}
use Rattle.master_state.specs.declared.updates.LockPut.{LockPut}
use Rattle.master_state.specs.State.{MasterState}
use Rattle.over_core.specs.Kept.{IsKept, is_idle, is_there, claim_fits, waiter_fits}
use Rattle.master_parts.specs.NameIndex.{name_of}
use Rattle.master_parts.proofs.FirstEntries.{own_entries, all_of_found, found_of_any}
use Rattle.master_state.specs.Replies.{puts_of}
use Rattle.over_core.proofs.LockClaims.{IsFit}
use Rattle.over_core.proofs.LockPuts.{IsPut}

pub all_kept : {X : Type 0} (P : X → Type 0) (keep : X → Bool) (xs : List X) → AllByRecursion P xs → AllByRecursion (λ x. P x × (keep x ≡ true)) (filter keep xs)
all_kept P keep [] all = tt
all_kept {X} P keep (x ∷ xs) all =
    (elim (keep x) as (λ b. keep x ≡ b → AllByRecursion (λ x. P x × (keep x ≡ true)) (cond b (x ∷ filter keep xs) (filter keep xs))) [
      | true ↦ (λ c. ((all.0, c), all_kept P keep xs all.1))
      | false ↦ (λ c. all_kept P keep xs all.1)
    ]) refl

-- a lock that stands in the table is the one at its instance
pub own_locks : (locks : LockTable) → IsStrictlySortedBy nat_cmp (keys_of locks) → AllByRecursion (λ (e : ℕ × LockState). lock_at locks e.0 ≡ e.1) locks
own_locks locks sorted = each locks (own_entries nat_cmp nat_cmp_total locks sorted)
  where
    each : (es : LockTable) → AllByRecursion (λ (e : ℕ × LockState). lookup (is_at (nat_cmp e.0)) locks ≡ Some e.1) es → AllByRecursion (λ (e : ℕ × LockState). lock_at locks e.0 ≡ e.1) es
    each [] h = tt
    each (e ∷ es) h = (ap (λ o. unwrap_or o (lock_of 0)) h.0, each es h.1)

-- ---- the node of an instance

-- the name of the node of an instance, and the node that stands there in the rows
pub record IsNamed (rows : Rows) (nodes : Nodes) (instance : ℕ) : Type 0 where
  pub name : List ℕ
  pub node : StoredNode
  pub is : name_of nodes instance ≡ Some name
  pub found : stored_node rows.nodes name ≡ Some node
  pub of_node : node.node.instance ≡ instance

stored_of : (o : Option StoredNode) (view : Node) → option_map (λ (node : StoredNode). node.node) o ≡ Some view → (node : StoredNode) × (o ≡ Some node) × (node.node ≡ view)
stored_of None view h = absurd cc
stored_of (Some node) view h = let same : node.node ≡ view = cc in (node, refl, same)

pub nodes_in_order : (rows : Rows) (nodes : Nodes) → nodes ≡ map_of rows → IsStrictlySortedBy (slice_cmp nat_cmp) (keys_of rows.nodes) → IsStrictlySortedBy (slice_cmp nat_cmp) (keys_of nodes)
nodes_in_order rows nodes same order =
    let P : List (List ℕ) → Type 0 = IsStrictlySortedBy (slice_cmp nat_cmp) in
    subst P (sym (ap (λ (ns : Nodes). keys_of ns) same ∙ keys_of_nodes rows.nodes)) order

pub named_node : (rows : Rows) (nodes : Nodes) (instance : ℕ) → nodes ≡ map_of rows → IsStrictlySortedBy (slice_cmp nat_cmp) (keys_of rows.nodes) → is_there nodes instance ≡ true → IsNamed rows nodes instance
named_node rows nodes instance same order there =
    let t = found_of_any (λ (e : List ℕ × Node). e.1.instance == instance) nodes there in
    let own = all_of_found (λ (e : List ℕ × Node). lookup (is_at (slice_cmp nat_cmp e.0)) nodes ≡ Some e.1) (λ (e : List ℕ × Node). e.1.instance == instance) nodes t.0 (own_entries (slice_cmp nat_cmp) nat_list_cmp_total nodes (nodes_in_order rows nodes same order)) t.1 in
    let stored : option_map (λ (node : StoredNode). node.node) (stored_node rows.nodes t.0.0) ≡ Some t.0.1 =
    sym (nodes_get rows.nodes t.0.0) ∙ ap (λ ns. get_node ns t.0.0) (sym same) ∙ own.0 in
    let u = stored_of (stored_node rows.nodes t.0.0) t.0.1 stored in
    record {
      name = t.0.0;
      node = u.0;
      is = ap (λ o. option_map (λ (entry : List ℕ × Node). entry.0) o) t.1;
      found = u.1;
      of_node = ap (λ (view : Node). view.instance) u.2 ∙ eqb-true t.0.1.instance instance own.1;
    }

-- the lock that is put there
abbrev pub named_put : List ℕ → ℕ → LockState → LockPut
named_put name instance lock = record { name = name; instance = instance; lock = lock }

pub puts_are : (s : MasterState) (instance : ℕ) (lock : LockState) (name : List ℕ) → name_of s.nodes instance ≡ Some name → puts_of s instance lock ≡ named_put name instance lock ∷ []
puts_are s instance lock name h = ap (λ o. option_map_or (λ (n : List ℕ). named_put n instance lock ∷ []) o []) h

pub named_is_put : (rows : Rows) (s : MasterState) (instance : ℕ) (lock : LockState) (named : IsNamed rows s.nodes instance) → IsFit (claim_fits s.sessions) (waiter_fits s.sessions) lock → (lock_at s.locks instance).generation ≤ lock.generation → IsPut rows s.locks s.sessions (named_put named.name instance lock)
named_is_put rows s instance lock named fit higher = record { node = named.node; found = named.found; instance = named.of_node; fit = fit; higher = higher }

-- ---- locks that aren't idle

there_of : (idle there : Bool) → (idle || there) ≡ true → idle ≡ false → there ≡ true
there_of true there h k = absurd cc
there_of false there h k = h

pub not_idle : (cell : List ℕ) (rows : Rows) (s : MasterState) (instance : ℕ) → IsKept cell rows s → is_idle (lock_at s.locks instance) ≡ false → IsNamed rows s.nodes instance
not_idle cell rows s instance k busy =
    named_node rows s.nodes instance k.nodes k.names_in_order (there_of (is_idle (lock_at s.locks instance)) (is_there s.nodes instance) (k.locks.each instance).there busy)

-- The nodes without the generations of their locks, through changes of the rows.
use Rattle.std.proofs.Common.{◌≡◌, ℕ, List, [], ◌∷◌, true, false, cond, Some, Less, Equal, Greater, refl, ap}
use Rattle.std.specs.Option.{option_map, option_map_or}
use Rattle.std.specs.Ordering.{match_ordering, nat_cmp}
use Rattle.std.specs.Cmp.Lexicographic.{slice_cmp}
use Rattle.std.specs.List.Sorted.{IsStrictlySortedBy}
use Rattle.std.specs.Map.{keys_of, remove_entry}
use Rattle.std.specs.BTreeMap.{is_at, insert_entry}
use Rattle.node_core.specs.declared.nodes.Node.{Node}
use Rattle.node_core.specs.Nodes.{get_node, HasNamesInOrder}
use Rattle.rows_cell.specs.declared.tables.StoredNode.{StoredNode}
use Rattle.rows_cell.specs.declared.tables.Rows.{Rows}
use Rattle.rows_cell.specs.Rows.{StoredNodes, stored_node, nodes_of, map_of, put_stored}

nodes_insert : (nodes : StoredNodes) (name : List ℕ) (node : StoredNode) → nodes_of (insert_entry (slice_cmp nat_cmp) nodes name node) ≡ insert_entry (slice_cmp nat_cmp) (nodes_of nodes) name node.node
nodes_insert [] name node = refl
nodes_insert (e ∷ es) name node =
    elim (slice_cmp nat_cmp name e.0) as (λ o. nodes_of (match_ordering o ((name, node) ∷ e ∷ es) ((e.0, node) ∷ es) (e ∷ insert_entry (slice_cmp nat_cmp) es name node)) ≡ match_ordering o ((name, node.node) ∷ nodes_of (e ∷ es)) ((e.0, node.node) ∷ nodes_of es) ((e.0, e.1.node) ∷ insert_entry (slice_cmp nat_cmp) (nodes_of es) name node.node)) [
      | Less ↦ refl
      | Equal ↦ refl
      | Greater ↦ ap (λ vs. (e.0, e.1.node) ∷ vs) (nodes_insert es name node)
    ]

pub nodes_put : (nodes : StoredNodes) (name : List ℕ) (node : Node) → nodes_of (put_stored nodes name node) ≡ insert_entry (slice_cmp nat_cmp) (nodes_of nodes) name node
nodes_put nodes name node =
    nodes_insert nodes name (record { node = node; lock_generation = option_map_or (λ (stored : StoredNode). stored.lock_generation) (stored_node nodes name) 0 })

pub nodes_gone : (nodes : StoredNodes) (name : List ℕ) → nodes_of (remove_entry (is_at (slice_cmp nat_cmp name)) nodes) ≡ remove_entry (is_at (slice_cmp nat_cmp name)) (nodes_of nodes)
nodes_gone [] name = refl
nodes_gone (e ∷ es) name =
    elim (is_at (slice_cmp nat_cmp name) e.0) as (λ b. nodes_of (cond b es (e ∷ remove_entry (is_at (slice_cmp nat_cmp name)) es)) ≡ cond b (nodes_of es) ((e.0, e.1.node) ∷ remove_entry (is_at (slice_cmp nat_cmp name)) (nodes_of es))) [
      | true ↦ refl
      | false ↦ ap (λ vs. (e.0, e.1.node) ∷ vs) (nodes_gone es name)
    ]

pub nodes_get : (nodes : StoredNodes) (name : List ℕ) → get_node (nodes_of nodes) name ≡ option_map (λ (stored : StoredNode). stored.node) (stored_node nodes name)
nodes_get [] name = refl
nodes_get (e ∷ es) name =
    elim (is_at (slice_cmp nat_cmp name) e.0) as (λ b. cond b (Some e.1.node) (get_node (nodes_of es) name) ≡ option_map (λ (stored : StoredNode). stored.node) (cond b (Some e.1) (stored_node es name))) [
      | true ↦ refl
      | false ↦ nodes_get es name
    ]

pub keys_of_nodes : (nodes : StoredNodes) → keys_of (nodes_of nodes) ≡ keys_of nodes
keys_of_nodes [] = refl
keys_of_nodes (e ∷ es) = ap (λ ks. e.0 ∷ ks) (keys_of_nodes es)

-- rows that hold a map have their names in order
pub rows_in_order : (rows : Rows) → HasNamesInOrder (map_of rows) → IsStrictlySortedBy (slice_cmp nat_cmp) (keys_of rows.nodes)
rows_in_order rows h = let order = h.in_order in rw (keys_of_nodes rows.nodes) at order

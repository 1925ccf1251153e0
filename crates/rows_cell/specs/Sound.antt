-- The test that rows of a store must pass. `sound` is what their types leave to test, `is_typed` what the types say, `sound_values` both.
use Rattle.std.specs.Prelude.{ℕ, Bool, true, false, not, ◌&&◌, ◌==◌, nat_lt, nat_le, List, [], ◌∷◌, length, map, filter}
use Rattle.std.specs.Option.{option_map_or}
use Rattle.std.specs.List.{list_all, list_any}
use Rattle.std.specs.Map.{lookup}
use Rattle.std.specs.BTreeMap.{is_at}
use Rattle.std.specs.Ordering.{nat_cmp}
use Rattle.std.specs.Str.{bytes_eq}
use Rattle.names_cell.specs.Text.{is_component, is_name, parent_of, cell_of, root_of}
use Rattle.node_core.specs.Limits.{content_limit, number_limit, lock_delay_limit}
use Rattle.node_core.specs.declared.kinds.Kind.{Kind}
use Rattle.node_core.specs.declared.kinds.Kind.TheVariants.{File, Directory}
use Rattle.node_core.specs.declared.nodes.Node.{Node}
use Rattle.rows_cell.specs.declared.tables.StoredNode.{StoredNode}
use Rattle.rows_cell.specs.declared.tables.LockRow.{LockRow}
use Rattle.rows_cell.specs.declared.tables.LockState.{LockState}
use Rattle.rows_cell.specs.declared.tables.LockState.TheVariants.{Lapsed, Exclusive, Shared}
use Rattle.rows_cell.specs.declared.keys.LockKey.{LockKey}
use Rattle.rows_cell.specs.declared.tables.Rows.{Rows}
use Rattle.rows_cell.specs.Rows.{StoredNodes, StoredLocks, stored_node}

-- a number of the store
abbrev pub is_number : ℕ → Bool
is_number n = nat_le n number_limit

abbrev pub is_directory : Kind → Bool
is_directory File = false
is_directory Directory = true

abbrev pub is_directory_at : StoredNodes → List ℕ → Bool
is_directory_at nodes name = option_map_or (λ node. is_directory node.node.kind) (stored_node nodes name) false

-- an instance that was given out, and generations within their limit
abbrev pub numbers_fit : ℕ → StoredNode → Bool
numbers_fit next node =
    nat_le 1 node.node.instance && nat_lt node.node.instance next && is_number node.node.content_generation
    && is_number node.node.acl_generation && is_number node.lock_generation

-- a content within its limit; a directory has none, and no content generation
abbrev pub content_fits : Kind → Node → Bool
content_fits File node = nat_le (length node.content) content_limit
content_fits Directory node = node.content_generation == 0 && length node.content == 0

-- each name but the root's stands under a directory
abbrev pub parent_fits : StoredNodes → List ℕ → Bool
parent_fits nodes name = option_map_or (λ parent. is_directory_at nodes parent) (parent_of name) true

abbrev pub node_fits : List ℕ → ℕ → StoredNodes → List ℕ × StoredNode → Bool
node_fits cell next nodes entry =
    bytes_eq (cell_of entry.0) cell && parent_fits nodes entry.0 && numbers_fit next entry.1 && content_fits entry.1.node.kind entry.1.node

abbrev pub are_distinct : List ℕ → Bool
are_distinct [] = true
are_distinct (n ∷ ns) = not (list_any (λ m. m == n) ns) && are_distinct ns

-- each name is one of the cell, each node fits, no two have the same instance, and the root is there
abbrev pub nodes_fit : List ℕ → ℕ → StoredNodes → Bool
nodes_fit cell next nodes =
    is_directory_at nodes (root_of cell) && list_all (node_fits cell next nodes) nodes && are_distinct (map (λ e. e.1.node.instance) nodes)

abbrev pub is_live_in : Rows → ℕ → Bool
is_live_in rows client = option_map_or (λ session. session.live) (lookup (is_at (nat_cmp client)) rows.sessions) false

-- a held lock is on a node, and had a first generation; its holder's session is live
abbrev pub holder_fits : Rows → LockKey → Bool
holder_fits rows key =
    list_any (λ e. e.1.node.instance == key.instance && nat_le 1 e.1.lock_generation) rows.nodes && is_live_in rows key.client

abbrev pub is_shared : LockState → Bool
is_shared Shared = true
is_shared _ = false

-- the rows of locks on the same node
abbrev pub beside : StoredLocks → LockKey → StoredLocks
beside locks key = filter (λ e. e.0.instance == key.instance) locks

-- one exclusive row, or shared rows, or one lapsed row with client and handle 0
abbrev pub state_fits : Rows → LockKey → LockState → Bool
state_fits rows key Exclusive = length (beside rows.locks key) == 1 && holder_fits rows key
state_fits rows key Shared = list_all (λ e. is_shared e.1.state) (beside rows.locks key) && holder_fits rows key
state_fits rows key Lapsed = length (beside rows.locks key) == 1 && key.client == 0 && key.handle == 0

-- a lock is on a node that is there, its numbers and its delay are within their limits
abbrev pub lock_fits : Rows → LockKey × LockRow → Bool
lock_fits rows entry =
    list_any (λ e. e.1.node.instance == entry.0.instance) rows.nodes && is_number entry.0.client && is_number entry.0.handle
    && nat_le entry.1.delay lock_delay_limit && state_fits rows entry.0 entry.1.state

-- rows that a cell of this name may have
abbrev pub sound : List ℕ → Rows → Bool
sound cell rows =
    bytes_eq rows.cell cell && is_number rows.epoch && is_number rows.next_instance && nodes_fit cell rows.next_instance rows.nodes
    && list_all (λ e. is_number e.0) rows.sessions && list_all (lock_fits rows) rows.locks

abbrev pub is_typed_node : List ℕ × StoredNode → Bool
is_typed_node entry = is_name entry.0 && is_component entry.1.node.read && is_component entry.1.node.write && is_component entry.1.node.change

-- names are names, ACL names components, principals principals, and the secret has its 32 bytes; rows as the program holds them can't be other
abbrev pub is_typed : Rows → Bool
is_typed rows =
    is_component rows.cell && length rows.secret == 32 && list_all is_typed_node rows.nodes && list_all (λ e. is_component e.1.principal) rows.sessions

-- the whole test, also of rows whose values have no type yet
abbrev pub sound_values : List ℕ → Rows → Bool
sound_values cell rows = is_typed rows && sound cell rows

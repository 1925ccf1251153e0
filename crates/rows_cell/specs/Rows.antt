-- The rows, what edits make of them, and the map that they hold.
use Rattle.std.specs.Prelude.{ℕ, Bool, true, false, not, ◌==◌, List, [], ◌∷◌, Option, Some, None, map, filter}
use Rattle.std.specs.Option.{option_map_or}
use Rattle.std.specs.Map.{lookup, remove_entry, set_value}
use Rattle.std.specs.BTreeMap.{is_at, insert_entry}
use Rattle.std.specs.Cmp.Lexicographic.{slice_cmp}
use Rattle.std.specs.Ordering.{nat_cmp}
use Rattle.node_core.specs.Nodes.{Nodes}
use Rattle.node_core.specs.declared.nodes.Node.{Node}
use Rattle.rows_cell.specs.declared.tables.StoredNode.{StoredNode}
use Rattle.rows_cell.specs.declared.tables.LockRow.{LockRow}
use Rattle.rows_cell.specs.declared.keys.LockKey.{LockKey}
use Rattle.rows_cell.specs.declared.tables.Rows.{Rows}
use Rattle.rows_cell.specs.declared.tables.Edit.{Edit}
use Rattle.rows_cell.specs.declared.tables.Edit.TheVariants.{Epoch, NextInstance, PutNode, LockGeneration, RemoveNode, PutSession, RemoveSession, EndedBelow, PutLock, RemoveLock}
use Rattle.rows_cell.specs.Keys.{lock_order}

-- entries of names and stored nodes
abbrev pub StoredNodes : Type 0
StoredNodes = List (List ℕ × StoredNode)

abbrev pub StoredLocks : Type 0
StoredLocks = List (LockKey × LockRow)

abbrev pub stored_node : StoredNodes → List ℕ → Option StoredNode
stored_node nodes name = lookup (is_at (slice_cmp nat_cmp name)) nodes

-- the nodes, without the generations of their locks
abbrev pub nodes_of : StoredNodes → Nodes
nodes_of nodes = map (λ e. (e.0, e.1.node)) nodes

-- the map of names to nodes that the rows hold
abbrev pub map_of : Rows → Nodes
map_of rows = nodes_of rows.nodes

-- the locks of all other nodes
abbrev pub without_locks_of : Option StoredNode → StoredLocks → StoredLocks
without_locks_of None locks = locks
without_locks_of (Some node) locks = filter (λ e. not (e.0.instance == node.node.instance)) locks

abbrev pub at_generation : StoredNodes → List ℕ → Option StoredNode → ℕ → StoredNodes
at_generation nodes name None generation = nodes
at_generation nodes name (Some node) generation = set_value (is_at (slice_cmp nat_cmp name)) nodes (record node { lock_generation = generation })

-- with another node at a name: the generation of its lock stays, and that of a new node is 0
abbrev pub put_stored : StoredNodes → List ℕ → Node → StoredNodes
put_stored nodes name node =
    insert_entry (slice_cmp nat_cmp) nodes name (record { node = node; lock_generation = option_map_or (λ stored. stored.lock_generation) (stored_node nodes name) 0 })

-- the rows after one edit
abbrev pub edited : Rows → Edit → Rows
edited rows (Epoch epoch) = record rows { epoch = epoch }
edited rows (NextInstance next) = record rows { next_instance = next }
edited rows (PutNode name node) = record rows { nodes = put_stored rows.nodes name node }
edited rows (LockGeneration name generation) = record rows { nodes = at_generation rows.nodes name (stored_node rows.nodes name) generation }
edited rows (RemoveNode name) =
    record rows { nodes = remove_entry (is_at (slice_cmp nat_cmp name)) rows.nodes; locks = without_locks_of (stored_node rows.nodes name) rows.locks }
edited rows (PutSession client session) = record rows { sessions = insert_entry nat_cmp rows.sessions client session }
edited rows (RemoveSession client) = record rows { sessions = remove_entry (is_at (nat_cmp client)) rows.sessions }
edited rows (EndedBelow next) = record rows { ended_below = next }
edited rows (PutLock key row) = record rows { locks = insert_entry lock_order rows.locks key row }
edited rows (RemoveLock key) = record rows { locks = remove_entry (is_at (lock_order key)) rows.locks }

-- the rows after a change: its edits, in order
abbrev pub changed_rows : Rows → List Edit → Rows
changed_rows rows [] = rows
changed_rows rows (edit ∷ edits) = changed_rows (edited rows edit) edits

-- whether an edit takes memory: one that takes something away doesn't, nor does one that sets a number
abbrev pub takes_memory : Edit → Bool
takes_memory (Epoch epoch) = false
takes_memory (NextInstance next) = false
takes_memory (LockGeneration name generation) = false
takes_memory (RemoveNode name) = false
takes_memory (RemoveSession client) = false
takes_memory (EndedBelow next) = false
takes_memory (RemoveLock key) = false
takes_memory _ = true

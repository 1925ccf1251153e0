-- Which ephemeral nodes are to go by themselves.
use Rattle.std.specs.Prelude.{ℕ, Bool, false, not, ◌&&◌, ◌||◌, ◌==◌, List, [], ◌∷◌, find, Option, None, Some, is_none, if◌then◌else◌}
use Rattle.std.specs.List.{list_any}
use Rattle.std.specs.Option.{option_map, option_map_or}
use Rattle.names_cell.specs.Text.{parent_of}
use Rattle.node_core.specs.declared.nodes.Node.{Node}
use Rattle.node_core.specs.Nodes.{Nodes, get_node, has_children}
use Rattle.master_parts.specs.declared.pending.Orphan.{Orphan}
use Rattle.master_parts.specs.declared.pending.Task.{Task}
use Rattle.master_parts.specs.declared.pending.Task.TheVariants as tasks
use Rattle.master_parts.specs.EphemeralNames.{is_ephemeral, NameTable}
use Rattle.master_parts.specs.OpenHandles.{is_open_in}
use Rattle.master_parts.specs.State.{TableState}

-- a handle of a live session is open on the instance; a session that has ended holds nothing open
abbrev pub is_held_open : TableState → ℕ → Bool
is_held_open t instance = list_any (λ entry. is_open_in t.sessions instance entry.0 entry.1) t.handles

-- the root and a directory with children stay
abbrev pub must_stay : Nodes → List ℕ → Bool
must_stay nodes name = has_children nodes name || is_none (parent_of name)

-- an ephemeral node that nobody holds open
abbrev pub is_left : TableState → List ℕ → Node → Bool
is_left t name node = is_ephemeral node.life && not (is_held_open t node.instance) && not (must_stay t.nodes name)

abbrev pub tidies : ℕ → Task → Bool
tidies instance (tasks.Asked asked) = false
tidies instance (tasks.Tidies idle) = idle.instance == instance

-- the cell waits to delete it already
abbrev pub has_its_turn : TableState → ℕ → Bool
has_its_turn t instance = list_any (λ w. tidies instance w.change.body) t.queue.gate.waiting

-- a node that nobody holds open, and whose deletion doesn't wait yet
abbrev pub goes : TableState → List ℕ × Node → Bool
goes t entry = is_left t entry.0 entry.1 && not (has_its_turn t entry.1.instance)

abbrev pub idle_of : List ℕ × Node → Orphan
idle_of entry = record { name = entry.0; instance = entry.1.instance }

-- the first by name
abbrev pub first_to_go : TableState → Option Orphan
first_to_go t = option_map idle_of (find (goes t) t.nodes)

-- ---- by names

-- the node of a name, where it is to go
abbrev pub idle_at : TableState → List ℕ → Option Orphan
idle_at t name = option_map_or (λ node. if goes t (name, node) then Some (idle_of (name, node)) else None) (get_node t.nodes name) None

abbrev pub or_next : Option Orphan → Option Orphan → Option Orphan
or_next (Some idle) next = Some idle
or_next None next = next

-- the first of these names whose node is to go
abbrev pub first_idle : TableState → NameTable → Option Orphan
first_idle t [] = None
first_idle t (entry ∷ entries) = or_next (idle_at t entry.0) (first_idle t entries)

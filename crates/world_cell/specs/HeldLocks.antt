-- What the lines of a run tell of a lock: by how many handles a client holds it, its generation, and the instance that the next node gets.
use Rattle.std.specs.Prelude.{◌≡◌, ℕ, ◌+◌, ◌-◌, max, ◌==◌, Bool, false, ◌&&◌, List, Option, Some, None, unwrap_or, fold, if◌then◌else◌}
use Rattle.std.specs.Option.{option_map_or}
use Rattle.std.specs.List.{count_by}
use Rattle.node_core.specs.declared.kinds.LockMode.{LockMode}
use Rattle.node_core.specs.declared.lines.Line.{Line}
use Rattle.node_core.specs.declared.lines.Line.TheVariants as lines
use Rattle.node_core.specs.declared.nodes.Node.{Node}
use Rattle.node_core.specs.declared.views.Mod.{Mod}
use Rattle.node_core.specs.declared.views.Mod.TheVariants.{Put, Gone}
use Rattle.node_core.specs.Nodes.{Nodes, changed}
use Rattle.rows_cell.specs.declared.keys.LockKey.{LockKey}
use Rattle.rows_cell.specs.declared.tables.LockRow.{LockRow}
use Rattle.rows_cell.specs.declared.tables.Rows.{Rows}
use Rattle.rows_cell.specs.Rows.{map_of}
use Rattle.rows_cell.specs.Indexes.{lock_generation_in, locks_at}
use Rattle.rows_cell.specs.LockRows.{is_state}
use Rattle.master_parts.specs.Locks.{stored_mode}
use Rattle.world_cell.specs.Locks.{instance_in}

-- what is seen of the lock of one instance: the map and the next instance; its generation, where its node is there; and by how many handles one client holds it in one mode
pub record LockSeen : Type 0 where
  pub nodes : Nodes
  pub next_instance : ℕ
  pub generation : Option ℕ
  pub holds : ℕ

-- ---- by the rows

abbrev pub is_mode : LockMode → LockMode → Bool
is_mode mode other = is_state (stored_mode mode) (stored_mode other)

-- by this row a handle of the client holds its lock in the mode
abbrev pub is_hold_of : ℕ → LockMode → LockKey × LockRow → Bool
is_hold_of client mode row = row.0.client == client && is_state row.1.state (stored_mode mode)

abbrev pub seen_in : ℕ → ℕ → LockMode → Rows → LockSeen
seen_in instance client mode rows = record {
  nodes = map_of rows;
  next_instance = rows.next_instance;
  generation = lock_generation_in rows.nodes instance;
  holds = count_by (is_hold_of client mode) (locks_at rows.locks instance);
}

-- ---- by the lines

-- a node that is put has a lock of generation 0, if it is new
abbrev pub with_put : ℕ → LockSeen → List ℕ → Node → LockSeen
with_put instance seen name node = record seen {
  nodes = changed seen.nodes (Put name node);
  next_instance = max seen.next_instance (node.instance + 1);
  generation = if node.instance == instance then Some (unwrap_or seen.generation 0) else seen.generation;
}

-- a node that goes takes its lock with it
abbrev pub with_gone : LockSeen → List ℕ → Bool → LockSeen
with_gone seen name own = record seen {
  nodes = changed seen.nodes (Gone name);
  generation = if own then None else seen.generation;
  holds = if own then 0 else seen.holds;
}

abbrev pub with_change : ℕ → LockSeen → Mod → LockSeen
with_change instance seen (Put name node) = with_put instance seen name node
with_change instance seen (Gone name) = with_gone seen name (option_map_or (λ at. at == instance) (instance_in seen.nodes name) false)

-- one handle more holds it, and it has this generation
abbrev pub with_hold : LockSeen → ℕ → Bool → LockSeen
with_hold seen generation own = record seen { generation = Some generation; holds = seen.holds + (if own then 1 else 0) }

-- by one more line: a handle got the lock, or let it go; a session ended, and with it all that its handles held; or the map changed
abbrev pub seen_by : ℕ → ℕ → LockMode → LockSeen → Line → LockSeen
seen_by instance client mode seen (lines.Locked whose at how generation) =
    if at == instance then with_hold seen generation (whose == client && is_mode how mode) else seen
seen_by instance client mode seen (lines.Freed whose at) = if at == instance && whose == client then record seen { holds = seen.holds - 1 } else seen
seen_by instance client mode seen (lines.Ended whose) = if whose == client then record seen { holds = 0 } else seen
seen_by instance client mode seen (lines.Applied whose number change names) = with_change instance seen change
seen_by instance client mode seen _ = seen

-- the new rows show of each lock, client and mode what the lines make of what the former ones showed
abbrev pub TellsOfLocks : Rows → Rows → List Line → Type 0
TellsOfLocks old new printed = (instance client : ℕ) (mode : LockMode) → seen_in instance client mode new ≡ fold (seen_by instance client mode) (seen_in instance client mode old) printed

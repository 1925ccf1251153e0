-- The rows that a master is told, of their parts.
use Rattle.std.specs.Prelude.{ℕ, ◌==◌, not, List, Result, Ok, Err, if◌then◌else◌}
use Rattle.names_cell.specs.Text.{is_component, is_name}
use Rattle.node_core.specs.declared.kinds.Kind.{Kind}
use Rattle.node_core.specs.declared.kinds.Kind.TheVariants as kinds
use Rattle.node_core.specs.declared.kinds.Life.{Life}
use Rattle.node_core.specs.declared.kinds.Life.TheVariants as lives
use Rattle.node_core.specs.declared.nodes.Node.{Node}
use Rattle.rows_cell.specs.declared.tables.LockState.{LockState}
use Rattle.rows_cell.specs.declared.tables.LockState.TheVariants as states
use Rattle.codec.specs.declared.faults.WireFault.{WireFault}
use Rattle.codec.specs.declared.faults.WireFault.TheVariants as wire
use Rattle.codec.specs.Forms.{◌>>=◌}
use Rattle.rows_remote.specs.declared.frames.Row.TheVariants as rows
use Rattle.rows_remote.specs.declared.frames.Own.{Own}
use Rattle.rows_remote.specs.Forms.{is_secret}
use Rattle.rows_remote.specs.Frames.{row_written, rows_front}
use Rattle.server_exports.specs.declared.rows.NodeParts.{NodeParts}
use Rattle.server_exports.specs.declared.rows.LockParts.{LockParts}
use Rattle.server_exports.specs.declared.rows.OwnParts.{OwnParts}

-- ---- what a number or a text stands for

abbrev pub kind_in : ℕ → Result Kind WireFault
kind_in kind = if kind == 0 then Ok kinds.File else if kind == 1 then Ok kinds.Directory else Err wire.BadKind

abbrev pub life_in : ℕ → Result Life WireFault
life_in life = if life == 0 then Ok lives.Permanent else if life == 1 then Ok lives.Ephemeral else Err wire.BadKind

abbrev pub state_in : ℕ → Result LockState WireFault
state_in state = if state == 0 then Ok states.Lapsed else if state == 1 then Ok states.Exclusive else if state == 2 then Ok states.Shared else Err wire.BadKind

abbrev pub name_in : List ℕ → Result (List ℕ) WireFault
name_in text = if is_name text then Ok text else Err wire.BadText

-- a component, or a principal
abbrev pub component_in : List ℕ → Result (List ℕ) WireFault
component_in text = if is_component text then Ok text else Err wire.BadText

abbrev pub secret_in : List ℕ → Result (List ℕ) WireFault
secret_in bytes = if is_secret bytes then Ok bytes else Err wire.BadNumber

-- ---- rows: the first part that isn't one is told

abbrev pub node_of : NodeParts → Kind → Life → (read write change content : List ℕ) → Node
node_of parts kind life read write change content = record {
  kind = kind;
  instance = parts.instance;
  content_generation = parts.content_generation;
  acl_generation = parts.acl_generation;
  read = read;
  write = write;
  change = change;
  life = life;
  content = content;
}

abbrev pub node_in : NodeParts → (read write change content : List ℕ) → Result Node WireFault
node_in parts read write change content =
    kind_in parts.kind >>= λ kind. life_in parts.life >>= λ life. component_in read >>= λ r. component_in write >>= λ w. component_in change >>= λ c.
    Ok (node_of parts kind life r w c content)

abbrev pub node_row : NodeParts → (name read write change content : List ℕ) → Result (List ℕ) WireFault
node_row parts name read write change content =
    name_in name >>= λ own. node_in parts read write change content >>= λ node.
    row_written (rows.Node own (record { node = node; lock_generation = parts.lock_generation }))

-- it is live where that isn't 0
abbrev pub session_row : ℕ → List ℕ → ℕ → Result (List ℕ) WireFault
session_row client principal live =
    component_in principal >>= λ own. row_written (rows.Session client (record { principal = own; live = not (live == 0) }))

abbrev pub lock_row : LockParts → Result (List ℕ) WireFault
lock_row parts =
    state_in parts.state >>= λ state.
    row_written (rows.Lock (record { instance = parts.instance; client = parts.client; handle = parts.handle }) (record { state = state; delay = parts.delay }))

-- ---- in front of them

abbrev pub own_in : OwnParts → (cell secret : List ℕ) → Own
own_in parts cell secret = record { number = parts.number; cell = cell; secret = secret; epoch = parts.epoch; next_instance = parts.next_instance; ended_below = parts.ended_below }

abbrev pub front_in : OwnParts → (cell secret : List ℕ) → Result (List ℕ) WireFault
front_in parts cell secret = component_in cell >>= λ c. secret_in secret >>= λ s. rows_front (own_in parts c s) parts.rows parts.length

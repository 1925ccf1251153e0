-- What the rows of a store say.
use Rattle.std.specs.Prelude.{ℕ, ℤ, pos, unsigned_abs, ◌-◌, Bool, true, false, ◌==◌, nat_lt, List, length, Option, Some, None, if◌then◌else◌, int_lt}
use Rattle.std.specs.Ordering.{int_eq}
use Rattle.sqlite_value.specs.declared.value.Value.{Value}
use Rattle.sqlite_value.specs.Order.{Row, column, bytes}
use Rattle.sqlite.specs.Edit.{id_in}
use Rattle.names_cell.specs.Text.{is_component, is_name}
use Rattle.node_core.specs.declared.kinds.Kind.{Kind}
use Rattle.node_core.specs.declared.kinds.Kind.TheVariants.{File, Directory}
use Rattle.node_core.specs.declared.kinds.Life.{Life}
use Rattle.node_core.specs.declared.kinds.Life.TheVariants.{Permanent, Ephemeral}
use Rattle.rows_cell.specs.declared.tables.StoredNode.{StoredNode}
use Rattle.rows_cell.specs.declared.tables.SessionRow.{SessionRow}
use Rattle.rows_cell.specs.declared.tables.LockRow.{LockRow}
use Rattle.rows_cell.specs.declared.tables.LockState.{LockState}
use Rattle.rows_cell.specs.declared.tables.LockState.TheVariants.{Lapsed, Exclusive, Shared}
use Rattle.rows_cell.specs.declared.keys.LockKey.{LockKey}
use Rattle.rows_sql.specs.declared.schema.ours.Version.{Version}
use Rattle.rows_sql.specs.declared.schema.ours.Version.TheVariants.{First, Unindexed, Second, Third}
use Rattle.rows_sql.specs.Versions.{number_of}
use Rattle.rows_sql.specs.declared.reading.stored.Numbers.{Numbers}
use Rattle.rows_sql.specs.declared.reading.stored.Acls.{Acls}
use Rattle.rows_sql.specs.declared.reading.stored.Meta.{Meta}

-- a whole number that is not below 0
abbrev pub count_of : ℤ → Option ℕ
count_of n = if int_lt n (pos 0) then None else Some (unsigned_abs n)

abbrev pub count_in : Value → Option ℕ
count_in v = count_of (id_in v)

abbrev pub name_in : Value → Option (List ℕ)
name_in v = if is_name (bytes v) then Some (bytes v) else None

abbrev pub component_in : Value → Option (List ℕ)
component_in v = if is_component (bytes v) then Some (bytes v) else None

abbrev pub secret_in : Value → Option (List ℕ)
secret_in v = if length (bytes v) == 32 then Some (bytes v) else None

abbrev pub kind_of : ℤ → Option Kind
kind_of n = if int_eq n (pos 0) then Some File else if int_eq n (pos 1) then Some Directory else None

abbrev pub life_of : ℤ → Option Life
life_of n = if int_eq n (pos 0) then Some Permanent else if int_eq n (pos 1) then Some Ephemeral else None

abbrev pub live_of : ℤ → Option Bool
live_of n = if int_eq n (pos 0) then Some false else if int_eq n (pos 1) then Some true else None

abbrev pub lock_state_of : ℤ → Option LockState
lock_state_of n = if int_eq n (pos 0) then Some Lapsed else if int_eq n (pos 1) then Some Exclusive else if int_eq n (pos 2) then Some Shared else None

-- ---- a node

abbrev pub numbers_from : Option Kind → Option Life → Option ℕ → Option ℕ → Option ℕ → Option ℕ → Option Numbers
numbers_from (Some kind) (Some life) (Some instance) (Some content_generation) (Some acl_generation) (Some lock_generation) =
    Some (record { kind = kind; life = life; instance = instance; content_generation = content_generation; acl_generation = acl_generation; lock_generation = lock_generation })
numbers_from _ _ _ _ _ _ = None

abbrev pub numbers_in : Row → Option Numbers
numbers_in r = numbers_from (kind_of (id_in (column r 2))) (life_of (id_in (column r 3))) (count_in (column r 1)) (count_in (column r 4)) (count_in (column r 5)) (count_in (column r 6))

abbrev pub acls_from : Option (List ℕ) → Option (List ℕ) → Option (List ℕ) → Option Acls
acls_from (Some read) (Some write) (Some change) = Some (record { read = read; write = write; change = change })
acls_from _ _ _ = None

abbrev pub acls_in : Row → Option Acls
acls_in r = acls_from (component_in (column r 7)) (component_in (column r 8)) (component_in (column r 9))

abbrev pub node_with : Numbers → Acls → List ℕ → StoredNode
node_with numbers acls content = record {
  node = record {
    kind = numbers.kind;
    instance = numbers.instance;
    content_generation = numbers.content_generation;
    acl_generation = numbers.acl_generation;
    read = acls.read;
    write = acls.write;
    change = acls.change;
    life = numbers.life;
    content = content;
  };
  lock_generation = numbers.lock_generation;
}

abbrev pub node_from : Option Numbers → Option Acls → Option (List ℕ) → List ℕ → Option (List ℕ × StoredNode)
node_from (Some numbers) (Some acls) (Some name) content = Some (name, node_with numbers acls content)
node_from _ _ _ content = None

-- name, instance, kind, life, content_gen, acl_gen, lock_gen, acl_read, acl_write, acl_change, content
abbrev pub node_in : Row → Option (List ℕ × StoredNode)
node_in r = node_from (numbers_in r) (acls_in r) (name_in (column r 0)) (bytes (column r 10))

-- ---- a session

abbrev pub session_from : Option ℕ → Option Bool → Option (List ℕ) → Option (ℕ × SessionRow)
session_from (Some client) (Some live) (Some principal) = Some (client, record { principal = principal; live = live })
session_from _ _ _ = None

-- client, principal, live
abbrev pub session_in : Row → Option (ℕ × SessionRow)
session_in r = session_from (count_in (column r 0)) (live_of (id_in (column r 2))) (component_in (column r 1))

-- ---- a lock

abbrev pub lock_from : Option ℕ → Option ℕ → Option ℕ → Option LockState → Option ℕ → Option (LockKey × LockRow)
lock_from (Some instance) (Some client) (Some handle) (Some state) (Some delay) = Some (record { instance = instance; client = client; handle = handle }, record { state = state; delay = delay })
lock_from _ _ _ _ _ = None

-- instance, client, handle, mode, delay
abbrev pub lock_in : Row → Option (LockKey × LockRow)
lock_in r = lock_from (count_in (column r 0)) (count_in (column r 1)) (count_in (column r 2)) (lock_state_of (id_in (column r 3))) (count_in (column r 4))

-- ---- the cell

abbrev pub meta_from : Bool → Option ℕ → Option ℕ → Option ℕ → Option (List ℕ) → Option (List ℕ) → Option Meta
meta_from true (Some ended_below) (Some epoch) (Some next_instance) (Some secret) (Some cell) =
    Some (record { cell = cell; secret = secret; epoch = epoch; next_instance = next_instance; ended_below = ended_below })
meta_from _ _ _ _ _ _ = None

-- the number is that of the version, which knows of no session that is forgotten
abbrev pub none_below : Version → ℤ → Option ℕ
none_below version n = if int_eq n (number_of version) then Some 0 else None

-- by how much it is above the number of the version of now
abbrev pub above_third : Option ℕ → Option ℕ
above_third None = None
above_third (Some n) = if nat_lt n 3 then None else Some (n - 3)

-- below which number the sessions that the rows don't name have ended: a store of now adds it to the number of its version
abbrev pub ended_of : Version → ℤ → Option ℕ
ended_of First n = none_below First n
ended_of Unindexed n = none_below Unindexed n
ended_of Second n = none_below Second n
ended_of Third n = above_third (count_of n)

-- it is the row of a cell
abbrev pub is_row_of : Row → Bool
is_row_of r = int_eq (id_in (column r 0)) (pos 1)

-- id, version, cell, secret, epoch, next_instance
abbrev pub meta_as : Version → Row → Option Meta
meta_as version r = meta_from (is_row_of r) (ended_of version (id_in (column r 1))) (count_in (column r 4)) (count_in (column r 5)) (secret_in (column r 3)) (component_in (column r 2))

-- in a store of now
abbrev pub meta_in : Row → Option Meta
meta_in r = meta_as Third r

-- ---- a child

abbrev pub child_from : Option (List ℕ) → Option (List ℕ) → Option (List ℕ × List ℕ)
child_from (Some parent) (Some child) = Some (child, parent)
child_from _ _ = None

-- parent, child: the child's name, and that of its parent
abbrev pub child_in : Row → Option (List ℕ × List ℕ)
child_in r = child_from (name_in (column r 0)) (name_in (column r 1))

-- The forms of rows and of edits.
use Rattle.std.specs.Prelude.{ℕ, ◌==◌, Bool, List, [], ◌∷◌, length, Result}
use Rattle.node_core.specs.declared.nodes.Node.{Node}
use Rattle.rows_cell.specs.declared.tables.StoredNode.{StoredNode}
use Rattle.rows_cell.specs.declared.tables.SessionRow.{SessionRow}
use Rattle.rows_cell.specs.declared.tables.LockRow.{LockRow}
use Rattle.rows_cell.specs.declared.tables.LockState.{LockState}
use Rattle.rows_cell.specs.declared.tables.LockState.TheVariants.{Lapsed, Exclusive, Shared}
use Rattle.rows_cell.specs.declared.tables.Edit.{Edit}
use Rattle.rows_cell.specs.declared.tables.Edit.TheVariants as edits
use Rattle.rows_cell.specs.declared.keys.LockKey.{LockKey}
use Rattle.codec.specs.declared.faults.WireFault.{WireFault}
use Rattle.codec.specs.declared.faults.WireFault.TheVariants.{BadNumber}
use Rattle.codec.specs.Forms.{Form, ◌⊗◌, made, tested, choice, of_kind, behind, flags, listed}
use Rattle.codec.specs.Fields.{word, block, name, component}
use Rattle.codec.specs.Outs.{node}
use Rattle.rows_remote.specs.declared.frames.Row.{Row}
use Rattle.rows_remote.specs.declared.frames.Row.TheVariants as rows
use Rattle.rows_remote.specs.declared.frames.Own.{Own}
use Rattle.rows_remote.specs.declared.frames.Whole.{Whole}
use Rattle.rows_remote.specs.declared.kinds.RowKind.{RowKind}
use Rattle.rows_remote.specs.declared.kinds.RowKind.TheVariants as row_of
use Rattle.rows_remote.specs.declared.kinds.EditKind.{EditKind}
use Rattle.rows_remote.specs.declared.kinds.EditKind.TheVariants as edit_of

-- ---- fields

-- with the generation of its lock
unfoldable pub stored : Form StoredNode
stored = made (λ x. record { node = x.0; lock_generation = x.1 }) (λ s. (s.node, s.lock_generation)) (node ⊗ word)

unfoldable pub session : Form SessionRow
session = made (λ x. record { principal = x.0; live = x.1 }) (λ s. (s.principal, s.live)) (component ⊗ flags)

unfoldable pub lock_key : Form LockKey
lock_key = made (λ x. record { instance = x.0; client = x.1.0; handle = x.1.1 }) (λ k. (k.instance, (k.client, k.handle))) (word ⊗ word ⊗ word)

abbrev pub state_place : LockState → ℕ
state_place Lapsed = 0
state_place Exclusive = 1
state_place Shared = 2

unfoldable pub lock_state : Form LockState
lock_state = choice (Lapsed ∷ Exclusive ∷ Shared ∷ []) state_place

unfoldable pub lock_row : Form LockRow
lock_row = made (λ x. record { state = x.0; delay = x.1 }) (λ r. (r.state, r.delay)) (lock_state ⊗ word)

abbrev pub is_secret : List ℕ → Bool
is_secret bytes = length bytes == 32

unfoldable pub secret : Form (List ℕ)
secret = tested BadNumber is_secret block

-- a name with its node, a client with its session, a key with its lock's row
unfoldable pub named : Form (List ℕ × StoredNode)
named = name ⊗ stored

unfoldable pub numbered : Form (ℕ × SessionRow)
numbered = word ⊗ session

unfoldable pub keyed : Form (LockKey × LockRow)
keyed = lock_key ⊗ lock_row

-- ---- rows

abbrev pub all_rows : List RowKind
all_rows = row_of.Node ∷ row_of.Session ∷ row_of.Lock ∷ []

abbrev pub row_place : RowKind → ℕ
row_place row_of.Node = 0
row_place row_of.Session = 1
row_place row_of.Lock = 2

abbrev pub row_kind : Row → RowKind
row_kind (rows.Node text stands) = row_of.Node
row_kind (rows.Session client stands) = row_of.Session
row_kind (rows.Lock key stands) = row_of.Lock

abbrev pub row_is : Row → Type 0
row_is (rows.Node text stands) = named.is (text, stands)
row_is (rows.Session client stands) = numbered.is (client, stands)
row_is (rows.Lock key stands) = keyed.is (key, stands)

abbrev pub row_bytes : Row → List ℕ
row_bytes (rows.Node text stands) = named.write (text, stands)
row_bytes (rows.Session client stands) = numbered.write (client, stands)
row_bytes (rows.Lock key stands) = keyed.write (key, stands)

abbrev pub row_behind : RowKind → List ℕ → Result (Row × List ℕ) WireFault
row_behind row_of.Node rest = behind (λ x. rows.Node x.0 x.1) named rest
row_behind row_of.Session rest = behind (λ x. rows.Session x.0 x.1) numbered rest
row_behind row_of.Lock rest = behind (λ x. rows.Lock x.0 x.1) keyed rest

-- the kind of the row, its key, and what stands there
unfoldable pub row : Form Row
row = of_kind (choice all_rows row_place) row_kind row_is row_bytes row_behind

unfoldable pub all_of_rows : Form (List Row)
all_of_rows = listed row

-- the number of the last commit, the cell's own row, and all others
unfoldable pub whole : Form Whole
whole =
    made (λ x. record { number = x.0; cell = x.1.0; secret = x.1.1.0; epoch = x.1.1.1.0; next_instance = x.1.1.1.1.0; ended_below = x.1.1.1.1.1.0; rows = x.1.1.1.1.1.1 })
    (λ w. (w.number, (w.cell, (w.secret, (w.epoch, (w.next_instance, (w.ended_below, w.rows)))))))
    (word ⊗ component ⊗ secret ⊗ word ⊗ word ⊗ word ⊗ all_of_rows)

-- what is told before the rows, but for their count
unfoldable pub own : Form Own
own =
    made (λ x. record { number = x.0; cell = x.1.0; secret = x.1.1.0; epoch = x.1.1.1.0; next_instance = x.1.1.1.1.0; ended_below = x.1.1.1.1.1 })
    (λ o. (o.number, (o.cell, (o.secret, (o.epoch, (o.next_instance, o.ended_below))))))
    (word ⊗ component ⊗ secret ⊗ word ⊗ word ⊗ word)

-- ---- edits

-- a name with what it gets
unfoldable pub node_put : Form (List ℕ × Node)
node_put = name ⊗ node

unfoldable pub generation_set : Form (List ℕ × ℕ)
generation_set = name ⊗ word

abbrev pub all_edits : List EditKind
all_edits =
    edit_of.Epoch ∷ edit_of.NextInstance ∷ edit_of.PutNode ∷ edit_of.LockGeneration ∷ edit_of.RemoveNode ∷ edit_of.PutSession ∷ edit_of.PutLock
    ∷ edit_of.RemoveLock ∷ edit_of.RemoveSession ∷ edit_of.EndedBelow ∷ []

abbrev pub edit_place : EditKind → ℕ
edit_place edit_of.Epoch = 0
edit_place edit_of.NextInstance = 1
edit_place edit_of.PutNode = 2
edit_place edit_of.LockGeneration = 3
edit_place edit_of.RemoveNode = 4
edit_place edit_of.PutSession = 5
edit_place edit_of.PutLock = 6
edit_place edit_of.RemoveLock = 7
edit_place edit_of.RemoveSession = 8
edit_place edit_of.EndedBelow = 9

abbrev pub edit_kind : Edit → EditKind
edit_kind (edits.Epoch epoch) = edit_of.Epoch
edit_kind (edits.NextInstance next) = edit_of.NextInstance
edit_kind (edits.PutNode text stands) = edit_of.PutNode
edit_kind (edits.LockGeneration text generation) = edit_of.LockGeneration
edit_kind (edits.RemoveNode text) = edit_of.RemoveNode
edit_kind (edits.PutSession client stands) = edit_of.PutSession
edit_kind (edits.PutLock key stands) = edit_of.PutLock
edit_kind (edits.RemoveLock key) = edit_of.RemoveLock
edit_kind (edits.RemoveSession client) = edit_of.RemoveSession
edit_kind (edits.EndedBelow next) = edit_of.EndedBelow

abbrev pub edit_is : Edit → Type 0
edit_is (edits.Epoch epoch) = word.is epoch
edit_is (edits.NextInstance next) = word.is next
edit_is (edits.PutNode text stands) = node_put.is (text, stands)
edit_is (edits.LockGeneration text generation) = generation_set.is (text, generation)
edit_is (edits.RemoveNode text) = name.is text
edit_is (edits.PutSession client stands) = numbered.is (client, stands)
edit_is (edits.PutLock key stands) = keyed.is (key, stands)
edit_is (edits.RemoveLock key) = lock_key.is key
edit_is (edits.RemoveSession client) = word.is client
edit_is (edits.EndedBelow next) = word.is next

abbrev pub edit_bytes : Edit → List ℕ
edit_bytes (edits.Epoch epoch) = word.write epoch
edit_bytes (edits.NextInstance next) = word.write next
edit_bytes (edits.PutNode text stands) = node_put.write (text, stands)
edit_bytes (edits.LockGeneration text generation) = generation_set.write (text, generation)
edit_bytes (edits.RemoveNode text) = name.write text
edit_bytes (edits.PutSession client stands) = numbered.write (client, stands)
edit_bytes (edits.PutLock key stands) = keyed.write (key, stands)
edit_bytes (edits.RemoveLock key) = lock_key.write key
edit_bytes (edits.RemoveSession client) = word.write client
edit_bytes (edits.EndedBelow next) = word.write next

abbrev pub edit_behind : EditKind → List ℕ → Result (Edit × List ℕ) WireFault
edit_behind edit_of.Epoch rest = behind edits.Epoch word rest
edit_behind edit_of.NextInstance rest = behind edits.NextInstance word rest
edit_behind edit_of.PutNode rest = behind (λ x. edits.PutNode x.0 x.1) node_put rest
edit_behind edit_of.LockGeneration rest = behind (λ x. edits.LockGeneration x.0 x.1) generation_set rest
edit_behind edit_of.RemoveNode rest = behind edits.RemoveNode name rest
edit_behind edit_of.PutSession rest = behind (λ x. edits.PutSession x.0 x.1) numbered rest
edit_behind edit_of.PutLock rest = behind (λ x. edits.PutLock x.0 x.1) keyed rest
edit_behind edit_of.RemoveLock rest = behind edits.RemoveLock lock_key rest
edit_behind edit_of.RemoveSession rest = behind edits.RemoveSession word rest
edit_behind edit_of.EndedBelow rest = behind edits.EndedBelow word rest

-- the kind of the edit, and its fields
unfoldable pub edit : Form Edit
edit = of_kind (choice all_edits edit_place) edit_kind edit_is edit_bytes edit_behind

unfoldable pub all_of_edits : Form (List Edit)
all_of_edits = listed edit

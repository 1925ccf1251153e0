-- An edit of the rows that a master asks for, by its parts.
use Rattle.std.specs.Prelude.{ℕ, ◌+◌, List, [], ◌++◌, length}
use Rattle.node_core.specs.declared.nodes.Node.{Node}
use Rattle.rows_cell.specs.declared.keys.LockKey.{LockKey}
use Rattle.rows_cell.specs.declared.tables.Edit.{Edit}
use Rattle.rows_cell.specs.declared.tables.Edit.TheVariants as edits
use Rattle.codec.specs.Forms.{flag}
use Rattle.codec.specs.Fields.{kind_place, life_place}
use Rattle.rows_remote.specs.Forms.{edit_kind, edit_place, state_place}
use Rattle.server_exports.specs.declared.edits.EditParts.{EditParts}

-- of this kind, of so many bytes, and nothing else
abbrev pub bare_edit : ℕ → ℕ → EditParts
bare_edit what taken = record {
  what = what;
  kind = 0;
  life = 0;
  state = 0;
  number = 0;
  client = 0;
  live = 0;
  instance = 0;
  handle = 0;
  content_generation = 0;
  acl_generation = 0;
  delay = 0;
  name_length = 0;
  read_length = 0;
  write_length = 0;
  change_length = 0;
  content_length = 0;
  taken = taken;
}

-- which edit it is: one above the byte of its kind
abbrev pub edit_number : Edit → ℕ
edit_number done = edit_place (edit_kind done) + 1

abbrev pub keyed_edit : ℕ → LockKey → ℕ → EditParts
keyed_edit what key taken = record (bare_edit what taken) { instance = key.instance; client = key.client; handle = key.handle }

abbrev pub put_parts : List ℕ → Node → ℕ → EditParts
put_parts name node taken = record (bare_edit (edit_number (edits.PutNode name node)) taken) {
  kind = kind_place node.kind;
  life = life_place node.life;
  instance = node.instance;
  content_generation = node.content_generation;
  acl_generation = node.acl_generation;
  name_length = length name;
  read_length = length node.read;
  write_length = length node.write;
  change_length = length node.change;
  content_length = length node.content;
}

abbrev pub parts_of : Edit → ℕ → EditParts
parts_of (edits.Epoch epoch) taken = record (bare_edit (edit_number (edits.Epoch epoch)) taken) { number = epoch }
parts_of (edits.NextInstance next) taken = record (bare_edit (edit_number (edits.NextInstance next)) taken) { number = next }
parts_of (edits.PutNode name node) taken = put_parts name node taken
parts_of (edits.LockGeneration name generation) taken =
    record (bare_edit (edit_number (edits.LockGeneration name generation)) taken) { number = generation; name_length = length name }
parts_of (edits.RemoveNode name) taken = record (bare_edit (edit_number (edits.RemoveNode name)) taken) { name_length = length name }
parts_of (edits.PutSession client session) taken =
    record (bare_edit (edit_number (edits.PutSession client session)) taken) { client = client; live = flag session.live; name_length = length session.principal }
parts_of (edits.PutLock key row) taken = record (keyed_edit (edit_number (edits.PutLock key row)) key taken) { state = state_place row.state; delay = row.delay }
parts_of (edits.RemoveLock key) taken = keyed_edit (edit_number (edits.RemoveLock key)) key taken
parts_of (edits.RemoveSession client) taken = record (bare_edit (edit_number (edits.RemoveSession client)) taken) { client = client }
parts_of (edits.EndedBelow next) taken = record (bare_edit (edit_number (edits.EndedBelow next)) taken) { number = next }

abbrev pub edit_parts : Edit × ℕ → EditParts
edit_parts read = parts_of read.0 read.1

-- ---- texts, one after the other

abbrev pub put_texts : List ℕ → Node → List ℕ
put_texts name node = name ++ (node.read ++ (node.write ++ (node.change ++ node.content)))

abbrev pub texts_of : Edit → List ℕ
texts_of (edits.PutNode name node) = put_texts name node
texts_of (edits.LockGeneration name generation) = name
texts_of (edits.RemoveNode name) = name
texts_of (edits.PutSession client session) = session.principal
texts_of done = []

abbrev pub edit_texts : Edit × ℕ → List ℕ
edit_texts read = texts_of read.0

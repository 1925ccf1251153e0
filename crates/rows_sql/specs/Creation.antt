-- A new store: the statements that make its four tables, their view and the row of its cell, and what is there after each.
use Rattle.std.specs.Prelude.{◌≡◌, List, [], ◌∷◌, map, ℕ, codes, Some, pos, IsTrue}
use Rattle.std.specs.List.{AllByRecursion}
use Rattle.sqlite.specs.declared.types.Value.TheVariants.{Null, Int}
use Rattle.sqlite.specs.Term.{lit, col}
use Rattle.sqlite.specs.Command.{Command}
use Rattle.sqlite.specs.Command.TheVariants.{InsertOr}
use Rattle.sqlite.specs.Source.TheVariants.{Values}
use Rattle.sqlite.specs.Table.{Table}
use Rattle.sqlite.specs.Schema.{Schema}
use Rattle.sqlite.specs.Tree.{Trees}
use Rattle.sqlite.specs.Effect.{Database, IsDatabase}
use Rattle.sqlite_catalog.specs.Change.{KeepsRows}
use Rattle.sqlite.specs.State.{State, HasCleanDisk, KeepsCommit, Survives}
use Rattle.sqlite_schema.specs.declared.schema.Index.{Index}
use Rattle.sqlite_schema.specs.declared.command.Conflict.TheVariants.{Abort}
use Rattle.rows_cell.specs.Opening.{opening}
use Rattle.rows_cell.specs.Settings.{Settled}
use Rattle.rows_cell.specs.Rows.{StoredNodes}
use Rattle.rows_cell.specs.declared.tables.Rows.{Rows}
use Rattle.rows_cell.specs.declared.tables.Edit.{Edit}
use Rattle.rows_cell.specs.declared.tables.Edit.TheVariants.{PutNode}
use Rattle.rows_sql.specs.OurSchema.{meta, nodes, sessions, key_index, first_schema, the_schema}
use Rattle.rows_sql.specs.Commands.{over}
use Rattle.rows_sql.specs.Held.{Says}
use Rattle.rows_sql.specs.Ready.{tables_of}
use Rattle.rows_sql.specs.WriteCommands.{is}
use Rattle.rows_sql.specs.Ongoing.{IsStore}

abbrev pub make_meta_text : List ℕ
make_meta_text = codes "CREATE TABLE meta (id INTEGER NOT NULL PRIMARY KEY, version INTEGER NOT NULL, cell TEXT NOT NULL, secret BLOB NOT NULL, epoch INTEGER NOT NULL, next_instance INTEGER NOT NULL) STRICT"

abbrev pub make_nodes_text : List ℕ
make_nodes_text = codes "CREATE TABLE nodes (name TEXT NOT NULL PRIMARY KEY, instance INTEGER NOT NULL UNIQUE, kind INTEGER NOT NULL, life INTEGER NOT NULL, content_gen INTEGER NOT NULL, acl_gen INTEGER NOT NULL, lock_gen INTEGER NOT NULL, acl_read TEXT NOT NULL, acl_write TEXT NOT NULL, acl_change TEXT NOT NULL, content BLOB NOT NULL) STRICT"

abbrev pub make_sessions_text : List ℕ
make_sessions_text = codes "CREATE TABLE sessions (client INTEGER NOT NULL PRIMARY KEY, principal TEXT NOT NULL, live INTEGER NOT NULL) STRICT"

abbrev pub make_locks_text : List ℕ
make_locks_text = codes "CREATE TABLE locks (instance INTEGER NOT NULL REFERENCES nodes (instance) ON DELETE CASCADE, client INTEGER NOT NULL, handle INTEGER NOT NULL, mode INTEGER NOT NULL, delay INTEGER NOT NULL, PRIMARY KEY (instance, client, handle)) STRICT"

abbrev pub put_cell_text : List ℕ
put_cell_text = codes "INSERT INTO meta (id, version, cell, secret, epoch, next_instance) VALUES (1, 3, ?1, ?2, 0, 4) ON CONFLICT (id) DO UPDATE SET version = excluded.version, cell = excluded.cell, secret = excluded.secret, epoch = excluded.epoch, next_instance = excluded.next_instance"

abbrev pub put_cell_command : Command
put_cell_command = InsertOr 0 Abort (Values (lit (Int (pos 1)) ∷ lit Null ∷ lit (Int (pos 3)) ∷ col 0 0 ∷ col 0 1 ∷ lit (Int (pos 0)) ∷ lit (Int (pos 4)) ∷ []) 7) (record {
  target = Some (0 ∷ []);
  update = Some (record { lets = []; body = over 0 (is (col 1 0) (col 0 2) ∷ []) (col 1 0 ∷ col 1 0 ∷ lit Null ∷ col 0 5 ∷ col 0 6 ∷ col 0 7 ∷ col 0 8 ∷ col 0 9 ∷ []) });
} ∷ [])

-- ---- the schema behind each statement

abbrev pub no_schema : Schema
no_schema = record { tables = []; indexes = []; views = [] }

abbrev pub with_meta : Schema
with_meta = record { tables = meta ∷ []; indexes = []; views = [] }

abbrev pub node_indexes : List Index
node_indexes = key_index (codes "sqlite_autoindex_nodes_1") 2 1 (1 ∷ []) ∷ key_index (codes "sqlite_autoindex_nodes_2") 3 1 (2 ∷ []) ∷ []

abbrev pub with_nodes : Schema
with_nodes = record { tables = meta ∷ nodes ∷ []; indexes = node_indexes; views = [] }

abbrev pub with_sessions : Schema
with_sessions = record { tables = meta ∷ nodes ∷ sessions ∷ []; indexes = node_indexes; views = [] }

-- it has this schema, and its tables have no rows
pub record IsEmptyAs (schema : Schema) (db : Database) : Type 0 where
  pub has : db.schema ≡ schema
  pub empty : AllByRecursion (λ (t : Table). db.trees t.tree ≡ []) schema.tables

-- a database of the one schema without rows becomes one of the other
abbrev pub Makes : Schema → Schema → State → State → Type 0
Makes before after old new = IsEmptyAs before old.now → IsEmptyAs after new.now × IsDatabase new.now

-- the four tables get their view, and their rows stay
pub record HasView (old new : Database) : Type 0 where
  pub schema : new.schema ≡ the_schema
  pub sound : IsDatabase new
  pub kept : KeepsRows first_schema.tables old.trees new.trees

abbrev pub AddsView : State → State → Type 0
AddsView old new = old.now.schema ≡ first_schema → HasView old.now new.now

-- ---- the rows

-- the rows of a new cell, before its nodes are put
abbrev pub bare_rows : Settled → Rows
bare_rows settings = record { cell = settings.cell; secret = settings.secret; epoch = 0; next_instance = 4; ended_below = 0; nodes = []; sessions = []; locks = [] }

-- the edits that put these nodes
abbrev pub puts_of : StoredNodes → List Edit
puts_of nodes = map (λ e. PutNode e.0 e.1.node) nodes

-- those of a new store
abbrev pub opening_edits : Settled → List Edit
opening_edits settings = puts_of (opening settings).nodes

-- it is a store, whose tables say these rows
pub record IsStoreOf (rows : Rows) (db : Database) : Type 0 where
  pub store : IsStore db
  pub said : Says (tables_of db.trees) rows

-- the tables of a store without rows get the row of its cell
abbrev pub PutsCell : Settled → State → State → Type 0
PutsCell settings old new = IsEmptyAs the_schema old.now × IsDatabase old.now → IsStoreOf (bare_rows settings) new.now

-- a database without tables gets them, and the row of the cell
abbrev pub MakesBare : Settled → State → State → Type 0
MakesBare settings old new = old.now.schema ≡ no_schema → IsStoreOf (bare_rows settings) new.now

-- a database without tables becomes a new store
abbrev pub Opens : Settled → State → State → Type 0
Opens settings old new = old.now.schema ≡ no_schema → IsStoreOf (opening settings) new.now

-- the same, and it is committed
pub record IsMade (settings : Settled) (old new : State) : Type 0 where
  pub opened : Opens settings old new
  pub is_open : IsTrue new.is_open
  pub committed : new.committed ≡ new.now

-- what a crash may find beside what it could before
abbrev pub MayOpen : Settled → State → Trees → Type 0
MayOpen settings old db = old.now.schema ≡ no_schema → Says (tables_of db) (opening settings)

-- nothing was committed, and a crash leaves what it could leave before
pub record StaysInside (old new : State) : Type 0 where
  pub kept : HasCleanDisk new → KeepsCommit old new
  pub survives : Survives old new (λ _. ⊥)

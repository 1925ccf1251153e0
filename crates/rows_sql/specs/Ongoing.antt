-- A transaction that does edits.
use Rattle.std.specs.Prelude.{◌≡◌, ℕ, Bool, true, List, None, IsTrue, Ok, MatchBool}
use Rattle.sqlite.specs.Tree.{Trees}
use Rattle.sqlite.specs.Order.{Row}
use Rattle.sqlite.specs.Schema.{Schema}
use Rattle.sqlite.specs.Effect.{Database, IsDatabase}
use Rattle.sqlite.specs.View.{IsShaped}
use Rattle.sqlite.specs.State.{State, Shows, Executes}
use Rattle.sqlite_trees.specs.declared.store.Shape.TheVariants.{Table}
use Rattle.rows_cell.specs.declared.tables.Rows.{Rows}
use Rattle.rows_cell.specs.declared.tables.Edit.{Edit}
use Rattle.rows_cell.specs.declared.tables.Edit.TheVariants.{PutNode}
use Rattle.rows_cell.specs.Rows.{changed_rows, edited, stored_node}
use Rattle.node_core.specs.declared.nodes.Node.{Node}
use Rattle.rows_sql.specs.OurSchema.{the_schema}
use Rattle.rows_sql.specs.Held.{Says}
use Rattle.rows_sql.specs.Ready.{tables_of}

-- it has this schema, and obeys it, and the rowids of the four tables rise
pub record IsStoreBy (which : Schema) (db : Database) : Type 0 where
  pub schema : db.schema ≡ which
  pub sound : IsDatabase db
  pub metas : IsShaped Table (db.trees 0)
  pub nodes : IsShaped Table (db.trees 1)
  pub sessions : IsShaped Table (db.trees 4)
  pub locks : IsShaped Table (db.trees 5)

-- it is a cell's store of now
abbrev pub IsStore : Database → Type 0
IsStore db = IsStoreBy the_schema db

-- a statement was run in a transaction, and did not end it
pub record RanInside (sql : List ℕ) (params : Row) (old new : State) : Type 0 where
  pub count : ℕ
  pub inside : IsTrue old.in_transaction
  pub ran : Executes sql params old new (Ok count)
  pub shown : Shows old new new.now old.committed true

-- the same, and it changed so many rows
pub record RanCounted (sql : List ℕ) (params : Row) (count : ℕ) (old new : State) : Type 0 where
  pub inside : IsTrue old.in_transaction
  pub ran : Executes sql params old new (Ok count)
  pub shown : Shows old new new.now old.committed true

-- a statement was refused: if that didn't end the transaction, nothing was changed
abbrev pub IsSpared : State → State → Type 0
IsSpared old new = IsTrue new.in_transaction → new.now ≡ old.now

-- whatever rows the tables said, they say the changed ones
abbrev pub SaysChanged : List Edit → Trees → Trees → Type 0
SaysChanged change old new = (rows : Rows) → Says (tables_of old) rows → Says (tables_of new) (changed_rows rows change)

-- the edits were done, and a store is a store still
pub record Changed (change : List Edit) (old new : State) : Type 0 where
  pub store : IsStore old.now → IsStore new.now
  pub says : IsStore old.now → SaysChanged change old.now.trees new.now.trees

-- the same, and they are committed
pub record Committed (change : List Edit) (old new : State) : Type 0 where
  pub store : IsStore old.now → IsStore new.now
  pub says : IsStore old.now → SaysChanged change old.now.trees new.now.trees
  pub is_open : IsTrue new.is_open
  pub committed : new.committed ≡ new.now

-- what a crash may find beside what it could before
abbrev pub MayCommit : List Edit → State → Trees → Type 0
MayCommit change old db = IsStore old.now → SaysChanged change old.now.trees db

-- ---- a put of a node, in its statements

-- the node was put, which is there; or there is none of this name, and the tables say what they said
pub record Renews (name : List ℕ) (node : Node) (is_there : Bool) (old new : State) : Type 0 where
  pub inside : IsTrue old.in_transaction
  pub store : IsStore old.now → IsStore new.now
  pub says : IsStore old.now → (rows : Rows) → Says (tables_of old.now.trees) rows
      → MatchBool is_there (Says (tables_of new.now.trees) (edited rows (PutNode name node))) ((stored_node rows.nodes name ≡ None) × Says (tables_of new.now.trees) rows)

-- What becomes of a store of an earlier version that is carried over.
use Rattle.std.specs.Prelude.{◌≡◌, ◌⊎◌, ◌≤◌, ℕ, false, IsTrue}
use Rattle.sqlite_trees.specs.declared.store.Store.{Ghosts}
use Rattle.sqlite_trees.specs.View.{doubt}
use Rattle.sqlite.specs.Tree.{Trees}
use Rattle.sqlite.specs.State.{HasCleanDisk}
use Rattle.sqlite.specs.Held.{Held, state}
use Rattle.rows_cell.specs.declared.tables.Rows.{Rows}
use Rattle.rows_sql.specs.declared.schema.ours.Version.{Version}
use Rattle.rows_sql.specs.Versions.{schema_of, IsEarlier}
use Rattle.rows_sql.specs.Held.{Says, SaysAs}
use Rattle.rows_sql.specs.Ready.{tables_of, tables_as}
use Rattle.rows_sql.specs.Ongoing.{IsStoreBy}
use Rattle.rows_sql.specs.Creation.{IsStoreOf}

-- it was carried over, if it said these rows: it is a store of now, with this epoch, and all of it is committed
pub record Becomes {S : Type 0} (g : Ghosts S) (version : Version) (rows : Rows) (epoch : ℕ) (old new : Held S) : Type 0 where
  pub idle : new.in_transaction ≡ false
  pub clean : doubt (state g old).is_clean ≤ doubt (state g new).is_clean
  pub is_open : HasCleanDisk (state g new) → IsTrue (state g new).is_open
  pub committed : HasCleanDisk (state g new) → (state g new).committed ≡ (state g new).now
  pub store : HasCleanDisk (state g new) → IsEarlier version → IsStoreBy (schema_of version) (state g old).now → SaysAs version (tables_as version (state g old).now.trees) rows → IsStoreOf (record rows { epoch = epoch }) (state g new).now

-- it wasn't: a crash leaves what it could leave before, or all of it carried over
pub record Remains {S : Type 0} (g : Ghosts S) (version : Version) (rows : Rows) (epoch : ℕ) (old new : Held S) : Type 0 where
  pub clean : doubt (state g old).is_clean ≤ doubt (state g new).is_clean
  pub crash : HasCleanDisk (state g new) → IsEarlier version → IsStoreBy (schema_of version) (state g old).now → SaysAs version (tables_as version (state g old).now.trees) rows
      → (db : Trees) → (state g new).may_leave db → (state g old).may_leave db ⊎ Says (tables_of db) (record rows { epoch = epoch })

-- The rows that the bytes of a database file and its log hold.
use Rattle.std.specs.Prelude.{◌≡◌, IsTrue}
use Rattle.sqlite_disk.specs.declared.Disk.{Ghosts}
use Rattle.sqlite_wal.specs.Recovery.{Image}
use Rattle.sqlite_trees.specs.Tree.{Trees}
use Rattle.sqlite_catalog.specs.Listing.{IsSound}
use Rattle.sqlite.specs.Files.{HoldsDatabase, AreFoundIn}
use Rattle.rows_cell.specs.declared.tables.Rows.{Rows}
use Rattle.rows_sql.specs.declared.schema.ours.Version.{Version}
use Rattle.rows_sql.specs.Versions.{schema_of}
use Rattle.rows_sql.specs.Held.{SaysAs}
use Rattle.rows_sql.specs.Ready.{tables_as}

-- these trees list the schema of a store of a version and obey it, and by its rules its tables say these rows
pub record AreOfStore (db : Trees) (rows : Rows) : Type 0 where
  pub version : Version
  pub listed : IsSound (schema_of version) db
  pub says : SaysAs version (tables_as version db) rows

-- the two files hold a database, as SQLite recovers it, which is a store of these rows
abbrev pub HoldsRows : Image → Rows → Type 0
HoldsRows image rows = (db : Trees) × HoldsDatabase image db × AreOfStore db rows

-- a store of these rows was found in the two files, and whatever database they hold is that store
pub record FindsRows (image : Image) (rows : Rows) : Type 0 where
  pub db : Trees
  pub found : AreFoundIn image db
  pub only : (other : Trees) → HoldsDatabase image other → db ≡ other
  pub store : AreOfStore db rows

-- a disk that takes no wrong answer as true, as memory
abbrev pub IsAlwaysClean : {D : Type 0} → Ghosts D → Type 0
IsAlwaysClean {D} g = (file : D) → IsTrue (g.is_clean file)

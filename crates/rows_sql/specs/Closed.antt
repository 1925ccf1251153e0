-- A store whose rows stand in its one file.
use Rattle.sqlite_disk.specs.declared.Disk.{Ghosts}
use Rattle.sqlite_disk.specs.declared.Files.{Files}
use Rattle.sqlite_wal.specs.Recovery.{Image}
use Rattle.sqlite_wal.specs.Files.{outcomes}
use Rattle.sqlite_trees.specs.Tree.{Trees}
use Rattle.sqlite.specs.Files.{image_of}
use Rattle.sqlite.specs.Closing.{HoldsAlone}
use Rattle.rows_cell.specs.declared.tables.Rows.{Rows}
use Rattle.rows_sql.specs.Held.{Says}
use Rattle.rows_sql.specs.Ready.{tables_of}

-- the database file alone holds a database whose tables say these rows, as the files read now and after a crash
pub record StandsAlone {D : Type 0} (g : Ghosts D) (files : Files D) (rows : Rows) : Type 0 where
  pub db : Trees
  pub says : Says (tables_of db) rows
  pub now : HoldsAlone (image_of g files) db
  pub left : (image : Image) → outcomes g files.log files.db image → HoldsAlone image db

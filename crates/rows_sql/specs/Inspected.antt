-- A store that passes its whole test, and one that doesn't.
use Rattle.std.specs.Prelude.{◌≡◌, ◌≢◌, ◌⊎◌, ℕ, true, false, List}
use Rattle.sqlite.specs.State.{State}
use Rattle.rows_cell.specs.declared.tables.Rows.{Rows}
use Rattle.rows_cell.specs.Sound.{sound}
use Rattle.rows_sql.specs.declared.schema.ours.Version.{Version}
use Rattle.rows_sql.specs.Versions.{schema_of}
use Rattle.rows_sql.specs.Held.{SaysAs}
use Rattle.rows_sql.specs.Ready.{tables_as}

-- it has the schema of a version, and by its rules its tables say these rows, which a cell of this name may have
pub record HasSound (cell : List ℕ) (s : State) (rows : Rows) : Type 0 where
  pub version : Version
  pub ours : s.now.schema ≡ schema_of version
  pub said : SaysAs version (tables_as version s.now.trees) rows
  pub sound_rows : sound cell rows ≡ true

-- by the rules of this version its tables say no rows, or rows that no cell of this name may have
abbrev pub SaysNoSound : List ℕ → Version → State → Type 0
SaysNoSound cell version s =
    ((rows : Rows) → ¬ SaysAs version (tables_as version s.now.trees) rows) ⊎ ((rows : Rows) × SaysAs version (tables_as version s.now.trees) rows × (sound cell rows ≡ false))

-- it has the schema of no version; or it has one's, and its tables say no sound rows
abbrev pub IsDamaged : List ℕ → State → Type 0
IsDamaged cell s =
    ((version : Version) → s.now.schema ≢ schema_of version) ⊎ ((version : Version) × (s.now.schema ≡ schema_of version) × SaysNoSound cell version s)

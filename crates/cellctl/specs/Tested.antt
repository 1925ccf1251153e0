-- What a test of a store prints, and how it ends.
use Rattle.std.specs.Prelude.{◌≡◌, ◌⊎◌, ⊤, ℕ, List, ◌∷◌, [], ◌++◌, true, false, Result, Ok, Err}
use Rattle.std.specs.Io.KnownBytes.{Appends}
use Rattle.sqlite_wal.specs.Recovery.{Image}
use Rattle.rows_cell.specs.declared.counts.Counts.{Counts}
use Rattle.rows_cell.specs.declared.tables.Rows.{Rows}
use Rattle.rows_cell.specs.declared.records.StoreFault.{StoreFault}
use Rattle.rows_cell.specs.declared.records.StoreFault.TheVariants.{NoMemory, Damaged, Exhausted}
use Rattle.rows_cell.specs.Counts.{counts_of}
use Rattle.rows_cell.specs.Sound.{sound}
use Rattle.rows_sql.specs.Found.{HoldsRows, FindsRows}
use Rattle.rows_sql.specs.Verdicts.{verdict_text}
use Rattle.cellctl.specs.Exits.{IsUnwritten, IsUnset}
use Rattle.cellctl.specs.Led.{Known}

-- 0 for a store that is sound, 4 where memory ran out, and 3 for one that is refused
abbrev pub status_of : Result Counts StoreFault → ℕ
status_of (Ok counts) = 0
status_of (Err NoMemory) = 4
status_of (Err fault) = 3

-- its verdict, and LF after it
abbrev pub verdict_line : Result Counts StoreFault → List ℕ
verdict_line tested = verdict_text tested ++ (10 ∷ [])

-- what the bytes of a store's files are by the name of a cell: rows that it may have, so many; or none of these
abbrev pub Tests : List ℕ → Image → Result Counts StoreFault → Type 0
Tests cell image (Ok counts) = (rows : Rows) × FindsRows image rows × (sound cell rows ≡ true) × (counts ≡ counts_of rows)
Tests cell image (Err Damaged) = (rows : Rows) → HoldsRows image rows → sound cell rows ≡ false
Tests cell image (Err Exhausted) = ⊥
Tests cell image (Err fault) = ⊤

-- the same where they were read; where they weren't, why
abbrev pub TestsRead : List ℕ → Result Image StoreFault → Result Counts StoreFault → Type 0
TestsRead cell (Ok image) tested = Tests cell image tested
TestsRead cell (Err fault) tested = tested ≡ Err fault

-- the line and the status of a test are those of the store that was tested; or the line can't be written
abbrev pub Reports : Result Counts StoreFault → ℕ → Known → Known → Type 0
Reports tested status before after = ((status ≡ status_of tested) × Appends before after (verdict_line tested)) ⊎ IsUnwritten status

abbrev pub ReportsRead : List ℕ → Result Image StoreFault → ℕ → Known → Known → Type 0
ReportsRead cell read status before after = (tested : Result Counts StoreFault) × TestsRead cell read tested × Reports tested status before after

-- those of whatever was read
abbrev pub ReportsSome : List ℕ → ℕ → Known → Known → Type 0
ReportsSome cell status before after = (read : Result Image StoreFault) × ReportsRead cell read status before after

-- a store was tested by the name of a cell; or there are no settings, and nothing was written
abbrev pub EndsTest : ℕ → Known → Known → Type 0
EndsTest status before after = ((cell : List ℕ) × ReportsSome cell status before after) ⊎ (IsUnset status × (after ≡ before))

-- The clients whose sessions have ended and are still known, the first to end first.
use Rattle.std.specs.Prelude.{ℕ, ◌-◌, Bool, true, false, nat_lt, List, [], ◌∷◌, ◌++◌, length, take, fold, Option, None, if◌then◌else◌}
use Rattle.std.specs.List.{slice_get}
use Rattle.tags_cell.specs.Numbers.{is_client_number}
use Rattle.rows_cell.specs.declared.tables.SessionRow as stored

-- how many are known at most once another session begins
abbrev pub departed_limit : ℕ
departed_limit = 1024

-- one more has ended; a number that no client can have isn't noted
abbrev pub with_departed : List ℕ → ℕ → List ℕ
with_departed departed client = if is_client_number client then departed ++ client ∷ [] else departed

-- the last one is taken back, where one was noted
abbrev pub without_last : Bool → List ℕ → List ℕ
without_last true departed = take (length departed - 1) departed
without_last false departed = departed

-- those of the rows, by their numbers
abbrev pub with_departed_row : List ℕ → ℕ × stored.SessionRow → List ℕ
with_departed_row departed entry = if entry.1.live then departed else with_departed departed entry.0

abbrev pub departed_in : List (ℕ × stored.SessionRow) → List ℕ
departed_in rows = fold with_departed_row [] rows

-- the first of them, where they are too many
abbrev pub first_due : List ℕ → Option ℕ
first_due departed = if nat_lt departed_limit (length departed) then slice_get departed 0 else None

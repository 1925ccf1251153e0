-- A next instance that is said again: only the last one of a change is set.
use Rattle.std.specs.Prelude.{◌≡◌, Bool, true, false, ◌&&◌, List, ◌∷◌}
use Rattle.std.specs.List.{list_any}
use Rattle.sqlite.specs.State.{State}
use Rattle.rows_cell.specs.declared.tables.Rows.{Rows}
use Rattle.rows_cell.specs.declared.tables.Edit.{Edit}
use Rattle.rows_cell.specs.declared.tables.Edit.TheVariants.{NextInstance}
use Rattle.rows_cell.specs.Rows.{changed_rows}
use Rattle.rows_sql.specs.Held.{Says}
use Rattle.rows_sql.specs.Ready.{tables_of}
use Rattle.rows_sql.specs.Ongoing.{IsStore}

abbrev pub sets_next : Edit → Bool
sets_next (NextInstance next) = true
sets_next _ = false

-- it says a next instance, and so does one of these, which come after it
abbrev pub is_overtaken : Edit → List Edit → Bool
is_overtaken edit later = sets_next edit && list_any sets_next later

-- an edit is done, or left to a later one: with these to come, the rows become what all of them make
pub record GoesOver (edit : Edit) (later : List Edit) (old new : State) : Type 0 where
  pub store : IsStore old.now → IsStore new.now
  pub says : IsStore old.now → (rows : Rows) → Says (tables_of old.now.trees) rows
      → (mid : Rows) × Says (tables_of new.now.trees) mid × (changed_rows mid later ≡ changed_rows rows (edit ∷ later))

-- The rows that stand, whatever the disk does, and what a crash may leave of them.
use Rattle.std.specs.Prelude.{◌≡◌, ◌≤◌, Bool, false, List, [], ◌∷◌, ◌++◌, Option, Some, None, IsTrue}
use Rattle.std.specs.List.{fold}
use Rattle.sqlite_trees.specs.declared.store.Store.{Ghosts}
use Rattle.sqlite_trees.specs.View.{doubt}
use Rattle.sqlite_rules.specs.Lists.{Has}
use Rattle.sqlite.specs.Tree.{Trees}
use Rattle.sqlite.specs.State.{State, HasCleanDisk}
use Rattle.sqlite.specs.Held.{Held, state}
use Rattle.rows_cell.specs.declared.tables.Rows.{Rows}
use Rattle.rows_cell.specs.declared.tables.Edit.{Edit}
use Rattle.rows_cell.specs.Rows.{changed_rows}
use Rattle.rows_sql.specs.Held.{Says}
use Rattle.rows_sql.specs.Ready.{tables_of, IsSettled, Rests}
use Rattle.rows_sql.specs.Ongoing.{IsStore}
use Rattle.rows_sql.specs.declared.records.StoreHistory.{StoreHistory}
use Rattle.rows_sql.specs.declared.records.StoreHistory.TheVariants.{Adopted, Read, Done, Tried}

-- the rows that stand, and those that a crash may leave
pub record Stood : Type 0 where
  pub rows : Rows
  pub left : List Rows

abbrev pub no_rows : Rows
no_rows = record { cell = []; secret = []; epoch = 0; next_instance = 0; ended_below = 0; nodes = []; sessions = []; locks = [] }

-- rows that are taken over stand alone; those of a read stand from then on; a change stands alone once it is committed, and where it is refused a crash may leave it beside all that it could leave before
abbrev pub noted : StoreHistory → List Edit → Stood → Stood
noted (Adopted rows) change s = record { rows = rows; left = rows ∷ [] }
noted (Read rows) change s = record s { rows = rows }
noted Done change s = record { rows = changed_rows s.rows change; left = changed_rows s.rows change ∷ [] }
noted Tried change s = record s { left = s.left ++ changed_rows s.rows change ∷ [] }

-- the rows of a note, if there are any
abbrev pub told_in : StoreHistory → Option Rows
told_in (Adopted rows) = Some rows
told_in (Read rows) = Some rows
told_in Done = None
told_in Tried = None

-- what a history comes to
abbrev pub stood : List (StoreHistory × List Edit) → Stood
stood = fold (λ s n. noted n.0 n.1 s) (record { rows = no_rows; left = [] })

-- one of these rows is what the trees say
abbrev pub IsLeft : List Rows → Trees → Type 0
IsLeft left db = (rows : Rows) × Has left rows × Says (tables_of db) rows

-- what ties the rows to the database. shut: it is asked no more
pub record Keeps (s : State) (shut : Bool) (rows : Rows) (left : List Rows) : Type 0 where
  pub idle : s.in_transaction ≡ false
  pub is_open : HasCleanDisk s → shut ≡ false → IsTrue s.is_open
  pub store : HasCleanDisk s → IsTrue s.is_open → IsStore s.now × (s.committed ≡ s.now) × Says (tables_of s.now.trees) rows
  pub crash : HasCleanDisk s → (db : Trees) → s.may_leave db → IsLeft left db

-- a database that was looked at behind a refusal: it is as before, and open where it goes on
pub record GoesOn {S : Type 0} (g : Ghosts S) (on : Bool) (old new : Held S) : Type 0 where
  pub idle : new.in_transaction ≡ false
  pub clean : doubt (state g old).is_clean ≤ doubt (state g new).is_clean
  pub settled : IsSettled (state g old)
  pub rests : HasCleanDisk (state g new) → Rests (state g old) (state g new)
  pub is_open : HasCleanDisk (state g new) → IsTrue on → IsTrue (state g new).is_open
  pub crash : HasCleanDisk (state g new) → (db : Trees) → (state g new).may_leave db → (state g old).may_leave db

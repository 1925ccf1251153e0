-- A store of an earlier version, carried over into one of now.
use Rattle.std.specs.Prelude.{◌≡◌, List, [], ◌∷◌, ℕ, codes, pos, IsTrue}
use Rattle.sqlite.specs.declared.types.Value.TheVariants.{Null, Int}
use Rattle.sqlite.specs.Term.{lit, col}
use Rattle.sqlite.specs.Command.{Command}
use Rattle.sqlite.specs.Command.TheVariants.{Update}
use Rattle.sqlite.specs.Tree.{Trees}
use Rattle.sqlite.specs.Effect.{Database, IsDatabase}
use Rattle.sqlite.specs.State.{State}
use Rattle.sqlite_catalog.specs.Change.{KeepsRows}
use Rattle.rows_cell.specs.declared.tables.Rows.{Rows}
use Rattle.rows_sql.specs.declared.schema.ours.Version.{Version}
use Rattle.rows_sql.specs.OurSchema.{first_schema}
use Rattle.rows_sql.specs.Versions.{schema_of, IsEarlier, HasFifth}
use Rattle.rows_sql.specs.Commands.{over}
use Rattle.rows_sql.specs.Held.{Says, SaysAs, SaysWith}
use Rattle.rows_sql.specs.Ready.{tables_of, tables_as}
use Rattle.rows_sql.specs.WriteCommands.{is}
use Rattle.rows_sql.specs.Ongoing.{IsStoreBy, IsStore}
use Rattle.rows_sql.specs.Creation.{IsStoreOf}

abbrev pub drop_children_text : List ℕ
drop_children_text = codes "DROP TABLE children"

abbrev pub set_version_text : List ℕ
set_version_text = codes "UPDATE meta SET version = 3, epoch = ?1 WHERE id = 1"

abbrev pub set_version_command : Command
set_version_command = Update 0 (record { lets = []; body = over 0 (is (col 1 0) (lit (Int (pos 1))) ∷ []) (col 1 0 ∷ col 1 0 ∷ lit Null ∷ lit (Int (pos 3)) ∷ col 1 3 ∷ col 1 4 ∷ col 0 0 ∷ col 1 6 ∷ []) })

-- the four tables keep their rows, and nothing is beside them
pub record HasFour (old new : Database) : Type 0 where
  pub schema : new.schema ≡ first_schema
  pub sound : IsDatabase new
  pub kept : KeepsRows first_schema.tables old.trees new.trees

-- a store that has the fifth table loses it
abbrev pub DropsChildren : State → State → Type 0
DropsChildren old new = (version : Version) → HasFifth version → old.now.schema ≡ schema_of version → HasFour old.now new.now

-- a store of an earlier version is left with the four tables
abbrev pub LeavesFour : Version → State → State → Type 0
LeavesFour version old new = IsEarlier version → IsStoreBy (schema_of version) old.now → HasFour old.now new.now

-- the number of the version was set, and the epoch
pub record SetsVersion (epoch : ℕ) (old new : State) : Type 0 where
  pub store : IsStore old.now → IsStore new.now
  pub says : IsStore old.now → (version : Version) → IsEarlier version → (rows : Rows) → SaysWith version (tables_of old.now.trees) rows [] → Says (tables_of new.now.trees) (record rows { epoch = epoch })

-- whatever rows a store of an earlier version says, it becomes one of now of the same rows with this epoch
abbrev pub Carries : Version → ℕ → State → State → Type 0
Carries version epoch old new =
    IsEarlier version → IsStoreBy (schema_of version) old.now → (rows : Rows) → SaysAs version (tables_as version old.now.trees) rows → IsStoreOf (record rows { epoch = epoch }) new.now

-- the same, and it is committed
pub record IsCarried (version : Version) (epoch : ℕ) (old new : State) : Type 0 where
  pub carried : Carries version epoch old new
  pub is_open : IsTrue new.is_open
  pub committed : new.committed ≡ new.now

-- what a crash may find beside what it could before
abbrev pub MayCarry : Version → ℕ → State → Trees → Type 0
MayCarry version epoch old db = IsEarlier version → IsStoreBy (schema_of version) old.now → (rows : Rows) → SaysAs version (tables_as version old.now.trees) rows → Says (tables_of db) (record rows { epoch = epoch })

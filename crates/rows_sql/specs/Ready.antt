-- A store that is ready, and what the tables show.
use Rattle.std.specs.Prelude.{◌≡◌, ◌≤◌, false, List, [], ◌∷◌, map, IsTrue, IsPermutation}
use Rattle.sqlite_trees.specs.declared.store.Store.{Ghosts}
use Rattle.sqlite_trees.specs.View.{doubt}
use Rattle.sqlite.specs.Held.{Held, state}
use Rattle.sqlite.specs.Order.{Row, column}
use Rattle.sqlite.specs.Tree.{Trees}
use Rattle.sqlite.specs.State.{State, HasCleanDisk}
use Rattle.rows_sql.specs.declared.schema.ours.Version.{Version}
use Rattle.rows_sql.specs.declared.schema.ours.Version.TheVariants.{First, Unindexed, Second, Third}
use Rattle.rows_sql.specs.Versions.{schema_of}
use Rattle.rows_sql.specs.Held.{Tables}

abbrev pub meta_shown : Row → Row
meta_shown r = column r 0 ∷ column r 2 ∷ column r 3 ∷ column r 4 ∷ column r 5 ∷ column r 6 ∷ []

abbrev pub node_shown : Row → Row
node_shown r = column r 1 ∷ column r 2 ∷ column r 3 ∷ column r 4 ∷ column r 5 ∷ column r 6 ∷ column r 7 ∷ column r 8 ∷ column r 9 ∷ column r 10 ∷ column r 11 ∷ []

abbrev pub session_shown : Row → Row
session_shown r = column r 0 ∷ column r 2 ∷ column r 3 ∷ []

abbrev pub lock_shown : Row → Row
lock_shown r = column r 1 ∷ column r 2 ∷ column r 3 ∷ column r 4 ∷ column r 5 ∷ []

abbrev pub child_shown : Row → Row
child_shown r = column r 1 ∷ column r 2 ∷ []

-- a store of the first version has no fifth table, nor one of now
abbrev pub children_shown : Version → Trees → List Row
children_shown First db = []
children_shown Unindexed db = map child_shown (db 7)
children_shown Second db = map child_shown (db 7)
children_shown Third db = []

abbrev pub tables_as : Version → Trees → Tables
tables_as version db =
    record { metas = map meta_shown (db 0); nodes = map node_shown (db 1); sessions = map session_shown (db 4); locks = map lock_shown (db 5); children = children_shown version db }

-- in a store of now
abbrev pub tables_of : Trees → Tables
tables_of db = tables_as Third db

-- all that was done is committed
abbrev pub IsSettled : State → Type 0
IsSettled s = IsTrue s.is_open → s.committed ≡ s.now

-- settled, with the schema of a cell's store of this version
pub record IsReadyAs (version : Version) (s : State) : Type 0 where
  pub ours : s.now.schema ≡ schema_of version
  pub settled : IsSettled s

abbrev pub IsReady : State → Type 0
IsReady s = IsReadyAs Third s

-- the database is as before, where the store is still open
abbrev pub Rests : State → State → Type 0
Rests old new = IsTrue new.is_open → IsTrue old.is_open × (new.now ≡ old.now) × (new.committed ≡ old.committed)

-- nothing was changed of a store of this version, whether it went well or not
pub record QuietAs (version : Version) {S : Type 0} (g : Ghosts S) (old new : Held S) : Type 0 where
  pub idle : old.in_transaction ≡ false → new.in_transaction ≡ false
  pub clean : doubt (state g old).is_clean ≤ doubt (state g new).is_clean
  pub rests : HasCleanDisk (state g new) → IsReadyAs version (state g old) → Rests (state g old) (state g new)
  pub crash : HasCleanDisk (state g new) → IsReadyAs version (state g old) → (db : Trees) → (state g new).may_leave db → (state g old).may_leave db

abbrev pub Quiet : {S : Type 0} → Ghosts S → Held S → Held S → Type 0
Quiet g old new = QuietAs Third g old new

-- the rows of each table, in some order
pub record AreOf (tables read : Tables) : Type 0 where
  pub metas : IsPermutation tables.metas read.metas
  pub nodes : IsPermutation tables.nodes read.nodes
  pub sessions : IsPermutation tables.sessions read.sessions
  pub locks : IsPermutation tables.locks read.locks
  pub children : IsPermutation tables.children read.children

-- it was read, and is as before
pub record IsStillAs (version : Version) (old new : State) : Type 0 where
  pub ready : IsReadyAs version new
  pub now_is : new.now ≡ old.now
  pub is_open : IsTrue new.is_open

abbrev pub IsStill : State → State → Type 0
IsStill old new = IsStillAs Third old new

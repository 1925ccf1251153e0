-- As what a store is taken over, and what a program that keeps rows gives.
use Rattle.std.specs.Prelude.{◌≡◌, ◌≤◌, ℕ, List, [], ◌∷◌, Option}
use Rattle.sqlite_trees.specs.View.{doubt}
use Rattle.sqlite_wal.specs.Recovery.{Image}
use Rattle.sqlite.specs.State.{State}
use Rattle.sqlite.specs.Tree.{Trees}
use Rattle.sqlite.specs.Effect.{Database, IsDatabase}
use Rattle.sqlite.specs.Files.{HoldsDatabase, AreFoundIn}
use Rattle.rows_cell.specs.Settings.{Settled}
use Rattle.rows_cell.specs.declared.tables.Rows.{Rows}
use Rattle.rows_cell.specs.Stores.{Store}
use Rattle.rows_remote.specs.Asking.{Framed, IsOpened}
use Rattle.rows_sql.specs.Adopting.{Adopts, Takes}

-- 1,000 to 60,000 ms
abbrev pub IsLease : ℕ → Type 0
IsLease lease = (1000 ≤ lease) × (lease ≤ 60000)

-- this store is of this cell, a crash leaves its rows alone, and nothing was refused
pub record IsFresh (settings : Settled) (first : Store) : Type 0 where
  pub cell : first.cell ≡ settings.cell
  pub left : first.may_leave ≡ first.rows ∷ []
  pub none : first.refusals ≡ 0

-- as it a connection that had this state is taken over: what was in doubt stays so, and if nothing is, its rows are those of that state
pub record IsAdopted (settings : Settled) (had : State) (first : Store) : Type 0 where
  pub fresh : IsFresh settings first
  pub doubted : doubt had.is_clean ≤ first.doubt
  pub adopts : first.doubt ≡ 0 → Adopts settings had first.rows

-- the database that files held is taken over as these rows
pub record TakesAt (settings : Settled) (held : Image) (rows : Rows) : Type 0 where
  pub had : Database
  pub holds : (db : Trees) → HoldsDatabase held db → had.trees ≡ db
  pub reads : AreFoundIn held had.trees
  pub listed : IsDatabase had
  pub takes : Takes settings had rows

-- as it files that held this are taken over: if nothing is in doubt, its rows are theirs
pub record IsTakenFrom (settings : Settled) (held : Image) (first : Store) : Type 0 where
  pub fresh : IsFresh settings first
  pub takes : first.doubt ≡ 0 → TakesAt settings held first.rows

-- its rows were asked for in one pipe, and came in the other
abbrev pub IsOpenedIn : Option (List ℕ) → Option (List ℕ) → Settled → Store → Type 0
IsOpenedIn asked answered settings first = (framed : Framed) × IsOpened settings.cell asked answered framed × (first ≡ framed.store)

-- What is left of a store that wasn't closed, and what a crash leaves of it.
use Rattle.std.specs.Prelude.{◌≡◌, ⊤, ℕ, Option, Some, None}
use Rattle.sqlite_disk.specs.declared.Disk as disk
use Rattle.sqlite_disk.specs.declared.Files.{Files}
use Rattle.sqlite_wal.specs.Recovery.{Image}
use Rattle.sqlite_store.specs.declared.store.FileStore.{FileStore}
use Rattle.sqlite_store.specs.FileStore.{view, recovers}
use Rattle.sqlite_trees.specs.View.{IsClean}
use Rattle.sqlite.specs.Tree.{Trees}
use Rattle.sqlite.specs.State.{State, HasCleanDisk}
use Rattle.sqlite.specs.Held.{Held}
use Rattle.sqlite.specs.Start.{FindsIn}
use Rattle.sqlite.specs.Files.{image_of, over_files, file_state, IsCleanLeft, FailsToOpenFiles, LeavesFiles}
use Rattle.sqlite.specs.declared.error.Error.{Error}
use Rattle.sqlite.specs.declared.file.Leftover.{Leftover}
use Rattle.rows_cell.specs.Settings.{Settled}
use Rattle.rows_cell.specs.declared.records.StoreFault.{StoreFault}
use Rattle.rows_cell.specs.declared.records.StoreFault.TheVariants.{Damaged, Exhausted}
use Rattle.rows_cell.specs.Stores.{Store}
use Rattle.rows_sql.specs.Adopting.{ComesBack, IsOther, IsFull}
use Rattle.rows_sql.specs.Keeping.{IsLeft}
use Rattle.cellctl.specs.Taken.{IsAdopted}
use Rattle.cellctl.specs.Led.{Known}
use Rattle.cellctl.specs.declared.runs.Unclosed.{Unclosed}
use Rattle.cellctl.specs.declared.runs.Unclosed.TheVariants as unclosed

module _ {D : Type 0} {g : disk.Ghosts D} where
  -- the files held this, and a crash leaves of them what it left before they were opened
  abbrev pub CantOpen : Image → Error → Option (Leftover D g) → Type 0
  CantOpen held error None = ⊤
  CantOpen held error (Some left) = (files : Files D) × (image_of g files ≡ held) × (IsCleanLeft left → FailsToOpenFiles files left error × LeavesFiles files left)

  -- the store wasn't taken over for this reason, and comes back
  pub record IsNotTaken (settings : Settled) (conn : Held (FileStore D g)) (fault : StoreFault) (store : FileStore D g) : Type 0 where
    pub back : ComesBack over_files settings conn store
    pub damaged : IsClean (view store) → fault ≡ Damaged → IsOther settings.cell (file_state conn)
    pub full : IsClean (view store) → fault ≡ Exhausted → IsFull settings.cell (file_state conn)

  -- the store was taken over; what was done led from it to one of which a crash leaves what it may leave; and if the disk gave back
  -- what was written, nothing was in doubt from first to last
  pub record IsLeftOpen (settings : Settled) (had : State) (Leads : Store → Store → Type 0) (store : FileStore D g) : Type 0 where
    pub first : Store
    pub last : Store
    pub began : IsAdopted settings had first
    pub sure : IsClean (view store) → (first.doubt ≡ 0) × (last.doubt ≡ 0)
    pub led : Leads first last
    pub left : IsClean (view store) → (db : Trees) → recovers store db → IsLeft last.may_leave db

  -- the store was taken over, and nothing was done
  abbrev pub IsGivenBack : Settled → Held (FileStore D g) → FileStore D g → Type 0
  IsGivenBack settings conn store = IsLeftOpen settings (file_state conn) (λ first last. last ≡ first) store

  -- the store wasn't taken over; or it is that of another cell, and nothing was done
  abbrev pub IsUntaken : Settled → Held (FileStore D g) → Unclosed D g → Type 0
  IsUntaken settings conn (unclosed.Unopened error left) = ⊥
  IsUntaken settings conn (unclosed.Refused fault store) = IsNotTaken settings conn fault store
  IsUntaken settings conn (unclosed.Other store) = IsGivenBack settings conn store
  IsUntaken settings conn (unclosed.Open status error store) = ⊥

  -- over a connection
  abbrev pub LeavesOver : Settled → Held (FileStore D g) → (ℕ → Store → Store → Type 0) → Known → Known → Unclosed D g → Type 0
  LeavesOver settings conn Leads before after (unclosed.Unopened error left) = ⊥
  LeavesOver settings conn Leads before after (unclosed.Refused fault store) = IsNotTaken settings conn fault store × (after ≡ before)
  LeavesOver settings conn Leads before after (unclosed.Other store) = IsGivenBack settings conn store × (after ≡ before)
  LeavesOver settings conn Leads before after (unclosed.Open status error store) = IsLeftOpen settings (file_state conn) (Leads status) store

  -- over the files of a path, which held this
  abbrev pub LeavesAt : Settled → Image → (ℕ → Store → Store → Type 0) → Known → Known → Unclosed D g → Type 0
  LeavesAt settings held Leads before after (unclosed.Unopened error left) = CantOpen held error left × (after ≡ before)
  LeavesAt settings held Leads before after rest =
      (conn : Held (FileStore D g)) × (HasCleanDisk (file_state conn) → FindsIn held (file_state conn)) × LeavesOver settings conn Leads before after rest

-- What is left of a store that wasn't closed.
use Rattle.std.proofs.Common.{◌≡◌, ◌⊎◌, inl, inr, ℕ, Option, None, Some, Result, Ok, Err, refl}
use Rattle.std.specs.Prelude.{IfOk, IfSome, IfErr}
use Rattle.sqlite_disk.specs.declared.Disk as disk
use Rattle.sqlite_disk.specs.declared.Files.{Files}
use Rattle.sqlite_wal.specs.Reads.{AreClean}
use Rattle.sqlite_wal.specs.Recovery.{Image}
use Rattle.sqlite_store.specs.declared.store.FileStore.{FileStore}
use Rattle.sqlite_store.specs.FileStore.{view, recovers}
use Rattle.sqlite_trees.specs.View.{IsClean}
use Rattle.sqlite.specs.Tree.{Trees}
use Rattle.sqlite.specs.State.{State, HasCleanDisk}
use Rattle.sqlite.specs.Held.{Held}
use Rattle.sqlite.specs.Start.{FindsIn}
use Rattle.sqlite.specs.Files.{image_of, file_state, IsCleanLeft, FailsToOpenFiles, LeavesFiles}
use Rattle.sqlite.specs.declared.error.Error.{Error}
use Rattle.sqlite.specs.declared.file.Leftover.{Leftover}
use Rattle.rows_cell.specs.Settings.{Settled}
use Rattle.rows_cell.specs.Stores.{Store}
use Rattle.rows_sql.specs.Keeping.{IsLeft}
use Rattle.cellctl.specs.Closed.{DoneOver, DoneAt}
use Rattle.cellctl.specs.Exits.{IsShut}
use Rattle.cellctl.specs.Led.{Known, LedOn, EndsLed}
use Rattle.cellctl.specs.Taken.{IsAdopted, IsTakenFrom}
use Rattle.cellctl.specs.Left.{CantOpen, IsLeftOpen, IsGivenBack, IsUntaken, LeavesOver, LeavesAt}
use Rattle.cellctl.specs.declared.runs.Unclosed.{Unclosed}
use Rattle.cellctl.specs.declared.runs.Unclosed.TheVariants as unclosed
use Rattle.cellctl.proofs.Overs.{taken_from, closed_at}

module _ {D : Type 0} {g : disk.Ghosts D} where
  pub left_open : (settings : Settled) (had : State) (Leads : Store → Store → Type 0) (first last : Store) (store : FileStore D g) → IsAdopted settings had first → (last.doubt ≡ 0 → first.doubt ≡ 0) → Leads first last
      → (IsClean (view store) → last.doubt ≡ 0) → (IsClean (view store) → (db : Trees) → recovers store db → IsLeft last.may_leave db) → IsLeftOpen settings had Leads store
  left_open settings had Leads first last store is grows led sure left = record {
    first = first;
    last = last;
    began = is;
    sure = λ clean. (grows (sure clean), sure clean);
    led = led;
    left = left;
  }

  -- it was taken over and given back
  pub given_back : (settings : Settled) (had : State) (first : Store) (store : FileStore D g) → IsAdopted settings had first → (IsClean (view store) → first.doubt ≡ 0) → (IsClean (view store) → (db : Trees) → recovers store db → IsLeft first.may_leave db)
      → IsLeftOpen settings had (λ before after. after ≡ before) store
  given_back settings had first store is sure left = left_open settings had (λ before after. after ≡ before) first first store is (λ h. h) refl sure left

  pub cant_open : (Log Database : Files D → Type 0) (held : Image) (error : Error) (left : Option (Leftover D g)) → ((files : Files D) → Log files → Database files → image_of g files ≡ held)
      → IfSome left (λ it. (files : Files D) × Log files × Database files × (IsCleanLeft it → FailsToOpenFiles files it error × LeavesFiles files it)) → CantOpen held error left
  cant_open Log Database held error None same p = tt
  cant_open Log Database held error (Some left) same p = (p.0, same p.0 p.1 p.2, p.3)

  -- what wasn't taken over is left as it was, and nothing was written
  pub untaken_left : (settings : Settled) (conn : Held (FileStore D g)) (Leads : ℕ → Store → Store → Type 0) (before : Known) (u : Unclosed D g) → IsUntaken settings conn u → LeavesOver settings conn Leads before before u
  untaken_left settings conn Leads before (unclosed.Unopened error left) p = absurd p
  untaken_left settings conn Leads before (unclosed.Refused fault store) p = (p, refl)
  untaken_left settings conn Leads before (unclosed.Other store) p = (p, refl)
  untaken_left settings conn Leads before (unclosed.Open status error store) p = absurd p

  -- what is left of a connection is left of its files
  pub left_at : {X : Type 0} (settings : Settled) (held : Image) (conn : Held (FileStore D g)) (Leads : ℕ → Store → Store → Type 0) (before after : Known) (r : Result X (Unclosed D g))
      → (HasCleanDisk (file_state conn) → FindsIn held (file_state conn)) → IfErr r (LeavesOver settings conn Leads before after) → IfErr r (LeavesAt settings held Leads before after)
  left_at settings held conn Leads before after (Ok x) finds p = tt
  left_at settings held conn Leads before after (Err (unclosed.Unopened error left)) finds p = absurd p
  left_at settings held conn Leads before after (Err (unclosed.Refused fault store)) finds p = (conn, finds, p)
  left_at settings held conn Leads before after (Err (unclosed.Other store)) finds p = (conn, finds, p)
  left_at settings held conn Leads before after (Err (unclosed.Open status error store)) finds p = (conn, finds, p)

  -- what was done over a connection was done over its files
  pub closed_from : {X : Type 0} (settings : Settled) (held : Image) (conn : Held (FileStore D g)) (Leads : ℕ → Store → Store → Type 0) (r : Result (ℕ × Files D) X)
      → (HasCleanDisk (file_state conn) → FindsIn held (file_state conn)) → IfOk r (λ x. AreClean g x.1.log x.1.db → DoneOver g settings (file_state conn) (Leads x.0) x.1)
      → IfOk r (λ x. AreClean g x.1.log x.1.db → DoneAt g settings held (Leads x.0) x.1)
  closed_from settings held conn Leads r = closed_at g settings (file_state conn) held Leads r

  -- of what is left of a store, what was to be done over it was done; or it wasn't, and nothing was written
  led_left : (settings : Settled) (held : Image) (Leads : ℕ → Store → Store → Type 0) (before after : Known) (u : Unclosed D g) → LeavesAt settings held Leads before after u
      → ((done : ℕ) × LedOn (IsTakenFrom settings held) (Leads done)) ⊎ (after ≡ before)
  led_left settings held Leads before after (unclosed.Unopened error left) p = inr p.1
  led_left settings held Leads before after (unclosed.Refused fault store) p = inr p.2.1
  led_left settings held Leads before after (unclosed.Other store) p = inr p.2.1
  led_left settings held Leads before after (unclosed.Open status error store) p = inl (status, (p.2.first, p.2.last, taken_from settings (file_state p.0) held p.2.first p.1 p.2.began, p.2.led))

  pub ends_left : (settings : Settled) (held : Image) (Leads : ℕ → Store → Store → Type 0) (before after : Known) (u : Unclosed D g) (status : ℕ) → IsShut status → LeavesAt settings held Leads before after u
      → EndsLed (IsTakenFrom settings held) Leads status before after
  ends_left settings held Leads before after u status shut p = inr (shut, led_left settings held Leads before after u p)

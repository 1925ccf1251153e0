-- A master comes up.
use Rattle.std.specs.Prelude.{◌≡◌, ◌⊎◌, ℕ, true, false, ◌+◌, not, List, [], ◌∷◌, Result, Ok, Err, if◌then◌else◌}
use Rattle.node_core.specs.declared.refusals.Fault.{Fault}
use Rattle.rows_cell.specs.declared.settings.MasterTerms.{MasterTerms}
use Rattle.rows_cell.specs.declared.tables.Rows.{Rows}
use Rattle.rows_cell.specs.declared.tables.Edit.{Edit}
use Rattle.rows_cell.specs.declared.tables.Edit.TheVariants.{Epoch}
use Rattle.rows_cell.specs.Rows.{changed_rows}
use Rattle.rows_cell.specs.Sound.{sound}
use Rattle.master_state.specs.State.{MasterState, master_of}
use Rattle.cell_core.specs.Step.{is_past_end}
use Rattle.cell_core.specs.Effect.{is_last}
use Rattle.rows_cell.specs.Stores.{Store, IsRead, IsUnread, IsCommitted, IsRefused}
use Rattle.node_core.specs.declared.refusals.Fault.TheVariants as faults

-- it commits the next epoch
abbrev pub up_edits : Rows → List Edit
up_edits rows = Epoch (rows.epoch + 1) ∷ []

-- sound rows with the next epoch, unless theirs is the last
abbrev pub next_epoch : List ℕ → Rows → Result Rows Fault
next_epoch cell rows =
    if not (sound cell rows) then Err faults.StoreDamaged
    else if is_last rows.epoch then Err faults.Exhausted
    else Ok (changed_rows rows (up_edits rows))

abbrev pub master_by : MasterTerms → ℕ → Result Rows Fault → Result MasterState Fault
master_by terms now (Ok rows) = Ok (master_of rows terms now)
master_by terms now (Err fault) = Err fault

-- the master with the rows of its epoch
abbrev pub up_step : List ℕ → Rows → MasterTerms → ℕ → Result MasterState Fault
up_step cell rows terms now = if is_past_end now then Err faults.Exhausted else master_by terms now (next_epoch cell rows)

-- what the store is asked to commit: nothing where no master can come up
abbrev pub up_commit : Result MasterState Fault → Rows → List Edit
up_commit (Ok master) rows = up_edits rows
up_commit (Err fault) rows = []

-- the master comes up by the rows that were read, and its epoch is committed over them
pub record ComesUp (terms : MasterTerms) (now : ℕ) (master : MasterState) (old new : Store) : Type 0 where
  pub read : Store
  pub was_read : IsRead old read
  pub came : up_step read.cell read.rows terms now ≡ Ok master
  pub committed : IsCommitted (up_edits read.rows) read new

-- what was read lets no master come up and stands, or memory is wanting, or the store refuses the commit
pub record IsKeptDown (terms : MasterTerms) (now : ℕ) (fault : Fault) (old new : Store) : Type 0 where
  pub read : Store
  pub was_read : IsRead old read
  pub why : ((up_step read.cell read.rows terms now ≡ Err fault) × (new ≡ read)) ⊎ IsRefused fault (up_commit (up_step read.cell read.rows terms now) read.rows) read new

-- no master comes up: the moment is past the end, or the store isn't read, or what was read keeps the master down
abbrev pub StaysDown : MasterTerms → ℕ → Fault → Store → Store → Type 0
StaysDown terms now fault old new =
    ((is_past_end now ≡ true) × (fault ≡ faults.Exhausted) × (new ≡ old))
    ⊎ ((is_past_end now ≡ false) × (IsUnread fault old new ⊎ IsKeptDown terms now fault old new))

-- ---- whether one could come up, by what is read alone

-- whatever its terms, a master could come up by the rows that were read, and would then have these
pub record CouldComeUp (now : ℕ) (old read : Store) : Type 0 where
  pub was_read : IsRead old read
  pub rows : Rows
  pub comes : (terms : MasterTerms) → up_step read.cell read.rows terms now ≡ Ok (master_of rows terms now)

-- whatever its terms, what was read lets no master come up
pub record IsTurnedDown (now : ℕ) (fault : Fault) (old read : Store) : Type 0 where
  pub was_read : IsRead old read
  pub why : (terms : MasterTerms) → up_step read.cell read.rows terms now ≡ Err fault

-- the moment is past the end, or the store isn't read, or what was read lets no master come up
abbrev pub CouldNotComeUp : ℕ → Fault → Store → Store → Type 0
CouldNotComeUp now fault old new =
    ((is_past_end now ≡ true) × (fault ≡ faults.Exhausted) × (new ≡ old))
    ⊎ ((is_past_end now ≡ false) × (IsUnread fault old new ⊎ IsTurnedDown now fault old new))

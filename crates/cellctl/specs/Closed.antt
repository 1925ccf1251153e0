-- What was done over the store in two files, which was then closed.
use Rattle.std.specs.Prelude.{◌≡◌, [], ◌∷◌, ℕ, List, Option}
use Rattle.sqlite_disk.specs.declared.Disk.{Ghosts}
use Rattle.sqlite_disk.specs.declared.Files.{Files}
use Rattle.sqlite_wal.specs.Recovery.{Image}
use Rattle.sqlite.specs.State.{State, HasCleanDisk}
use Rattle.rows_cell.specs.Settings.{Settled, terms_of}
use Rattle.rows_cell.specs.declared.tables.Rows.{Rows}
use Rattle.rows_cell.specs.Stores.{Store}
use Rattle.rows_sql.specs.Adopting.{Adopts}
use Rattle.rows_sql.specs.Closed.{StandsAlone}
use Rattle.hosting.specs.declared.pieces.GroupLimits.{GroupLimits}
use Rattle.cellctl.specs.Led.{Known, ScriptLeadsSurely, FramesLead}
use Rattle.cellctl.specs.Taken.{TakesAt}

-- a store of these rows that was just taken over: a crash leaves them, nothing was refused, nothing is in doubt
abbrev pub taken : Settled → Rows → Store
taken settings rows = record { cell = settings.cell; rows = rows; may_leave = rows ∷ []; refusals = 0; doubt = 0 }

-- over a connection that had this state: what was done led from the store that it was taken over as to one whose rows stand
-- in the database file alone
pub record DoneOver {D : Type 0} (g : Ghosts D) (settings : Settled) (had : State) (Leads : Store → Store → Type 0) (files : Files D) : Type 0 where
  pub clean : HasCleanDisk had
  pub first : Rows
  pub last : Store
  pub adopts : Adopts settings had first
  pub led : Leads (taken settings first) last
  pub stands : StandsAlone g files last.rows

-- the same over the database that these files held
pub record DoneAt {D : Type 0} (g : Ghosts D) (settings : Settled) (held : Image) (Leads : Store → Store → Type 0) (files : Files D) : Type 0 where
  pub first : Rows
  pub last : Store
  pub takes : TakesAt settings held first
  pub led : Leads (taken settings first) last
  pub stands : StandsAlone g files last.rows

-- a script ended so over it
abbrev pub RanOver : {D : Type 0} → Ghosts D → Settled → State → Known → ℕ → Files D → Known → Known → Type 0
RanOver g settings had text status files before after = DoneOver g settings had (ScriptLeadsSurely (terms_of settings) text before after status) files

abbrev pub RanAt : {D : Type 0} → Ghosts D → Settled → Image → Known → ℕ → Files D → Known → Known → Type 0
RanAt g settings held text status files before after = DoneAt g settings held (ScriptLeadsSurely (terms_of settings) text before after status) files

-- frames were served so over it
abbrev pub ServedOver : {D : Type 0} → Ghosts D → Settled → GroupLimits → State → Known → ℕ → Files D → Known → Known → Type 0
ServedOver g settings limits had text status files before after = DoneOver g settings had (FramesLead (record { master = terms_of settings; limits = limits }) text before after status) files

abbrev pub ServedAt : {D : Type 0} → Ghosts D → Settled → GroupLimits → Image → Known → ℕ → Files D → Known → Known → Type 0
ServedAt g settings limits held text status files before after = DoneAt g settings held (FramesLead (record { master = terms_of settings; limits = limits }) text before after status) files

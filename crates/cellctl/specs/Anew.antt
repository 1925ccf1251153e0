-- What a script did over a new store in memory, and what a run of a script comes to.
use Rattle.std.specs.Prelude.{◌≡◌, ◌⊎◌, ℕ, Option, None, Some}
use Rattle.sqlite_wal.specs.Recovery.{Image}
use Rattle.rows_cell.specs.Settings.{Settled, terms_of}
use Rattle.rows_cell.specs.Opening.{opening}
use Rattle.world_steps.specs.World.{opened}
use Rattle.scripts.specs.Ran.{RunsSurely}
use Rattle.cellctl.specs.Closed.{taken}
use Rattle.cellctl.specs.Exits.{IsShut, IsUnset}
use Rattle.cellctl.specs.Led.{Known, EndsScript}
use Rattle.cellctl.specs.Taken.{IsLease, IsTakenFrom}

-- it ended so, from the rows of a new cell on, and the laws of runs hold of it
abbrev pub RanAnew : Settled → Known → ℕ → Known → Known → Type 0
RanAnew settings text status before after = RunsSurely status text (opened (taken settings (opening settings)) (terms_of settings)) before after

-- it did, or there was no store for it, and nothing was written
abbrev pub EndsAnew : Settled → Known → ℕ → Known → Known → Type 0
EndsAnew settings text status before after = RanAnew settings text status before after ⊎ (IsShut status × (after ≡ before))

-- the script of this whole text was run over the store in the files of a path, which held this, if there is one, and else over a new
-- one
abbrev pub EndsRun : {P : Type 0} → Settled → Image → Option P → Known → ℕ → Known → Known → Type 0
EndsRun settings held None text status before after = EndsAnew settings text status before after
EndsRun settings held (Some path) text status before after = EndsScript (IsTakenFrom settings held) (terms_of settings) text status before after

-- it was with the settings of a file or the standard ones, over the store of a path or a new one; or there are no settings or no
-- script, and nothing was written
abbrev pub EndsAnyRun : Image → Known → ℕ → Known → Known → Type 0
EndsAnyRun held text status before after =
    ((settings : Settled) × IsLease settings.lease × (EndsAnew settings text status before after ⊎ EndsScript (IsTakenFrom settings held) (terms_of settings) text status before after))
    ⊎ (IsUnset status × (after ≡ before))

-- the same of a script of which no byte is known
abbrev pub EndsSomeRun : Image → ℕ → Known → Known → Type 0
EndsSomeRun held status before after = (text : Known) × EndsAnyRun held text status before after

-- How the program ends.
use Rattle.std.specs.Prelude.{◌≡◌, ◌⊎◌, ⊤, ℕ}
use Rattle.scripts.specs.Stops.{IsStatus}
use Rattle.cellctl.specs.declared.troubles.TroubleSubject.{TroubleSubject}
use Rattle.cellctl.specs.declared.troubles.TroubleSubject.TheVariants.{Store, Pipe, Rows, Script, Settings}

-- as a script does, by a command line or settings that aren't any, by a store that is refused, or by a run of threads that is
abbrev pub IsExit : ℕ → Type 0
IsExit status = (status ≡ 2) ⊎ ((status ≡ 3) ⊎ ((status ≡ 5) ⊎ IsStatus status))

-- where the output can't be written, or there is no memory for it
abbrev pub IsUnwritten : ℕ → Type 0
IsUnwritten status = (status ≡ 1) ⊎ (status ≡ 4)

-- where there are no words, settings or script, or there is no memory for them
abbrev pub IsUnset : ℕ → Type 0
IsUnset status = (status ≡ 2) ⊎ (status ≡ 4)

-- where rows can't be opened, taken over or closed, or there is no memory for it
abbrev pub IsShut : ℕ → Type 0
IsShut status = (status ≡ 3) ⊎ (status ≡ 4)

-- a trouble is with what somebody wrote
abbrev pub IsOfText : TroubleSubject → Type 0
IsOfText Script = ⊤
IsOfText Settings = ⊤
IsOfText subject = ⊥

-- a trouble is with rows, or with the way to them
abbrev pub IsOfRows : TroubleSubject → Type 0
IsOfRows Store = ⊤
IsOfRows Pipe = ⊤
IsOfRows Rows = ⊤
IsOfRows subject = ⊥

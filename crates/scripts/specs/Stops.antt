-- How a script ends.
use Rattle.std.specs.Prelude.{◌≡◌, ◌⊎◌, ℕ}
use Rattle.scripts.specs.declared.stops.ScriptStop.{ScriptStop}
use Rattle.scripts.specs.declared.stops.ScriptStop.TheVariants.{BadStep, Unread, NoMemory, Unwritten}

abbrev pub status_of : ScriptStop → ℕ
status_of (BadStep line) = 1
status_of (Unread line) = 1
status_of NoMemory = 4
status_of Unwritten = 1

-- the end; a bad step, or a line that can't be read or written; what keeps a script from being run at all
abbrev pub IsStatus : ℕ → Type 0
IsStatus status = (status ≡ 0) ⊎ ((status ≡ 1) ⊎ (status ≡ 4))

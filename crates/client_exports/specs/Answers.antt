-- What an export answers.
use Rattle.std.specs.Prelude.{◌≡◌, ◌⊎◌, ◌≤◌, ◌<◌, ℕ, List, ◌++◌, length, drop, Option, Some, Result, Ok, Err}
use Rattle.codec.specs.declared.faults.WireFault.{WireFault}
use Rattle.codec.specs.declared.faults.WireFault.TheVariants as wire
use Rattle.collections.specs.Results.{Gives}
use Rattle.client_exports.specs.declared.statuses.Status.{Status}
use Rattle.client_exports.specs.Statuses.{status_code, wire_code}
use Rattle.client_exports.specs.States.{HeldState}
use Rattle.client_exports.specs.Steps.{Makes}

-- a client was opened, which is told by 0, and the place owns it; or it is told what is wrong. Want of memory, 1, may stand in the place of either
abbrev pub Opens : Result HeldState WireFault → Option HeldState → ℕ → Type 0
Opens (Ok held) owned code = ((code ≡ 0) × (owned ≡ Some held)) ⊎ (code ≡ 1)
Opens (Err fault) owned code = (code ≡ wire_code fault) ⊎ (code ≡ 1)

-- the numbers that tell that nothing has changed: want of memory, a number or a moment at its end, and what is wrong with bytes
abbrev pub Leaves : ℕ → Type 0
Leaves code = (code ≡ 1) ⊎ ((code ≡ 13) ⊎ (80 < code))

-- a step: it was made and ended so, which is told by this number; or nothing has changed
pub record Answers (old new : HeldState) (code : ℕ) (step : HeldState × Status) : Type 0 where
  pub status : Status
  pub told : code ≡ status_code status
  pub made : Makes old new status step
  pub kept : Leaves code → new ≡ old

-- bytes go to the front of a room if they fit, what stands after them stays, and their number is told; else the room stays
pub record Fills (bytes : List ℕ) (before after : List ℕ) (count : ℕ) : Type 0 where
  pub counted : count ≡ length bytes
  pub fits : length bytes ≤ length before → after ≡ bytes ++ drop (length bytes) before
  pub stays : length before < length bytes → after ≡ before

-- the same of what was to be shown, which is told by 0; or it is told what is wrong, and all stays
abbrev pub Writes : Result (List ℕ) WireFault → (before after : List ℕ) (former count code : ℕ) → Type 0
Writes (Ok bytes) before after former count code = Fills bytes before after count × (code ≡ 0)
Writes (Err fault) before after former count code = (after ≡ before) × (count ≡ former) × (code ≡ wire_code fault)

-- what is shown is the wanted, unless memory ran out
pub record Shows (wanted : Result (List ℕ) WireFault) (before after : List ℕ) (former count code : ℕ) : Type 0 where
  pub shown : Result (List ℕ) WireFault
  pub wants : Gives wire.NoMemory shown wanted
  pub writes : Writes shown before after former count code

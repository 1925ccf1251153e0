-- What an export answers.
use Rattle.std.specs.Prelude.{◌≡◌, ◌≤◌, ◌<◌, ◌+◌, ℕ, List, ◌++◌, length, drop, Result, Ok, Err}
use Rattle.collections.specs.Results.{Gives}
use Rattle.codec.specs.declared.faults.WireFault.{WireFault}
use Rattle.codec.specs.declared.faults.WireFault.TheVariants as wire
use Rattle.hosting.specs.Told.{fault_place}

-- what is wrong with bytes: one above the byte by which a master tells it
abbrev pub fault_code : WireFault → ℕ
fault_code fault = fault_place fault + 1

-- bytes go to the front of a room if they fit, and what stands after them stays; else the room stays
pub record Fills (bytes before after : List ℕ) : Type 0 where
  pub fits : length bytes ≤ length before → after ≡ bytes ++ drop (length bytes) before
  pub stays : length before < length bytes → after ≡ before

-- bytes that were given, and how many they are, which is told by 0; or what is wrong, and all stays
abbrev pub Puts : Result (List ℕ) WireFault → (before after : List ℕ) → (former count code : ℕ) → Type 0
Puts (Ok bytes) before after former count code = Fills bytes before after × (count ≡ length bytes) × (code ≡ 0)
Puts (Err fault) before after former count code = (after ≡ before) × (count ≡ former) × (code ≡ fault_code fault)

-- what was given is the wanted, unless memory ran out
pub record Shows (wanted : Result (List ℕ) WireFault) (before after : List ℕ) (former count code : ℕ) : Type 0 where
  pub given : Result (List ℕ) WireFault
  pub wants : Gives wire.NoMemory given wanted
  pub puts : Puts given before after former count code

-- what was read goes out by its parts, and its name, which is told by 0; or what is wrong, and all stays
abbrev pub Parts : {X P : Type 0} → (X → P) → (X → List ℕ) → Result X WireFault → (old new : P) → (before after : List ℕ) → ℕ → Type 0
Parts parts name (Ok x) old new before after code = (new ≡ parts x) × Fills (name x) before after × (code ≡ 0)
Parts parts name (Err fault) old new before after code = (new ≡ old) × (after ≡ before) × (code ≡ fault_code fault)

-- what was read is the wanted, unless memory ran out
pub record Tells {X P : Type 0} (parts : X → P) (name : X → List ℕ) (wanted : Result X WireFault) (old new : P) (before after : List ℕ) (code : ℕ) : Type 0 where
  pub read : Result X WireFault
  pub wants : Gives wire.NoMemory read wanted
  pub tells : Parts parts name read old new before after code

-- What the words of a step write.
use Rattle.std.specs.Prelude.{◌≡◌, ◌≢◌, ◌⊎◌, ◌≤◌, ◌<◌, ◌||◌, ℕ, List, [], ◌∷◌, ◌++◌, true, if◌then◌else◌, codes, decimal, replicate, Option, Result, IfOk, MatchOption}
use Rattle.hex.specs.Hex.{IsBytes, encode_lower}
use Rattle.tags_cell.specs.Modes.{Rights}
use Rattle.tags_cell.specs.declared.masks.Events.{Events}

-- a letter for each right, in this order
abbrev pub letters_of : Rights → List ℕ
letters_of rights =
    (if rights.read then codes "r" else []) ++ ((if rights.write then codes "w" else []) ++ (if rights.change then codes "c" else []))

-- some right
abbrev pub HasRight : Rights → Type 0
HasRight rights = (rights.read || rights.write || rights.change) ≡ true

-- a letter for each event, in this order
abbrev pub event_letters : Events → List ℕ
event_letters events =
    (if events.contents then codes "m" else [])
    ++ ((if events.children then codes "d" else []) ++ ((if events.lock then codes "l" else []) ++ (if events.conflict then codes "x" else [])))

-- these bytes, at least one, two lower case hexadecimal digits each
abbrev pub IsWritten : List ℕ → List ℕ → Type 0
IsWritten word bytes = (word ≡ encode_lower bytes) × (bytes ≢ [])

-- so many times a byte
pub record IsFilled (word bytes : List ℕ) : Type 0 where
  pub count : ℕ
  pub byte : ℕ
  pub few : count ≤ 300000
  pub small : byte < 256
  pub text : word ≡ decimal count ++ (codes ":" ++ encode_lower (byte ∷ []))
  pub filled : bytes ≡ replicate count byte

-- the content that a word writes
abbrev pub IsContent : List ℕ → List ℕ → Type 0
IsContent word bytes =
    ((word ≡ codes "-") × (bytes ≡ [])) ⊎ (((rest : List ℕ) × (word ≡ codes "fill:" ++ rest) × IsFilled rest bytes) ⊎ IsWritten word bytes)

-- where memory is there: bytes that fit, or none where no bytes fit
abbrev pub FindsBytes : {E : Type 0} → (List ℕ → Type 0) → Result (Option (List ℕ)) E → Type 0
FindsBytes Fits result = IfOk result (λ found. MatchOption found ((bytes : List ℕ) → IsBytes bytes → ¬ (Fits bytes)) (λ bytes. Fits bytes × IsBytes bytes))

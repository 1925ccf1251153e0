-- How the lines of a script are read.
use Rattle.std.specs.Prelude.{◌≡◌, ◌≤◌, ℕ, ◌+◌, Bool, true, false, List, [], ◌∷◌, ◌++◌, length, ⊤, Option, Some, None}
use Rattle.std.specs.Io.KnownBytes.{IsAtEnd}
use Rattle.std.specs.Io.BufRead.{take_through, drop_through}
use Rattle.names_cell.specs.Text.{text_lines}

-- these are the first lines of a text, and what is left after them, where the text is known
abbrev pub Passes : Option (List ℕ) → List (List ℕ) → Option (List ℕ) → Type 0
Passes None texts after = ⊤
Passes (Some text) texts None = ⊥
Passes (Some text) texts (Some rest) = text_lines text ≡ texts ++ text_lines rest

-- these are the lines of a text, where it is known
abbrev pub AreLines : Option (List ℕ) → List (List ℕ) → Type 0
AreLines None texts = ⊤
AreLines (Some text) texts = texts ≡ text_lines text

-- the text that is left, the line that was read last, without its LF, and its number
pub record Reading : Type 0 where
  pub rest : Option (List ℕ)
  pub line : List ℕ
  pub number : ℕ

-- the bytes up to and with the next LF were read, where they are known, and their count is told
abbrev pub FillsFrom : Option (List ℕ) → Option (List ℕ) → List ℕ → Type 0
FillsFrom None after line = ⊤
FillsFrom (Some text) after line = (line ≡ take_through 10 text) × (after ≡ Some (drop_through 10 text))

abbrev pub Fills : ℕ → Reading → Reading → Type 0
Fills count old new = FillsFrom old.rest new.rest new.line × ((length new.line ≡ count) × ((new.number ≡ old.number) × (count ≡ 0 → IsAtEnd old.rest)))

-- the next line was read, within the limits; or there is none
abbrev pub Advances : Bool → Reading → Reading → Type 0
Advances true old new = Passes old.rest (new.line ∷ []) new.rest × ((new.number ≡ old.number + 1) × ((new.number ≤ 1000000) × (length new.line ≤ 1048576)))
Advances false old new = IsAtEnd old.rest

-- What stands in an output of which a part couldn't be written.
use Rattle.std.specs.Prelude.{◌≡◌, ℕ, List, ◌++◌, length, take, drop, Option}
use Rattle.std.specs.Io.KnownBytes.{Appends}

-- known bytes grow by a front of these
abbrev pub AppendsFront : Option (List ℕ) → Option (List ℕ) → List ℕ → Type 0
AppendsFront before after bytes = (front : List ℕ) × (left : List ℕ) × (bytes ≡ front ++ left) × Appends before after front

-- known bytes grow by so many of a text, those behind others: as many as there are, and at most 4,096
abbrev pub IsPart : Option (List ℕ) → Option (List ℕ) → ℕ → ℕ → List ℕ → Type 0
IsPart before after at count text = (count ≡ length (take 4096 (drop at text))) × Appends before after (take 4096 (drop at text))

-- What the lines of a script do to a world, and what they write.
use Rattle.std.specs.Prelude.{◌≡◌, ◌⊎◌, ◌≤◌, ℕ, List, [], ◌∷◌, ◌++◌, length, Option, Result, Ok, Err}
use Rattle.std.specs.Io.KnownBytes.{Appends}
use Rattle.std.specs.Str.Lossy.{utf8_lossy}
use Rattle.node_core.specs.declared.refusals.Fault.{Fault}
use Rattle.node_core.specs.declared.lines.Line.{Line}
use Rattle.node_core.specs.declared.lines.Line.TheVariants as lines
use Rattle.node_core.specs.Texts.{line_text}
use Rattle.output.specs.Fronts.{AppendsFront}
use Rattle.world_steps.specs.World.{WorldView}
use Rattle.scripts.specs.declared.steps.Parsed.{Parsed}
use Rattle.scripts.specs.declared.steps.Parsed.TheVariants as parsed
use Rattle.scripts.specs.Readings.{IsParsed}
use Rattle.scripts.specs.Settling.{Played, played, PlaysMade, PlaysRefused, Settles}
use Rattle.scripts.specs.Texts.{AreLines, Passes}

-- each line with LF after it
abbrev pub lines_text : List Line → List ℕ
lines_text [] = []
lines_text (line ∷ rest) = line_text line ++ (10 ∷ lines_text rest)

-- what a step prints: its lines, or its refusal
abbrev pub told : Result (List Line) Fault → List Line
told (Ok printed) = printed
told (Err fault) = lines.Refused fault ∷ []

-- what a line asks for is done
abbrev pub DoesParsed : Played → Parsed → List Line → Played → Type 0
DoesParsed old parsed.Nothing printed new = (printed ≡ []) × (new ≡ old)
DoesParsed old (parsed.Step step) printed new = PlaysMade old step new printed ⊎ PlaysRefused old step new printed
DoesParsed old parsed.Settle printed new = Settles old printed new
DoesParsed old (parsed.Refused fault) printed new = (printed ≡ lines.Refused fault ∷ []) × (new ≡ old)
DoesParsed old parsed.Bad printed new = ⊥

-- a line of at most 1,048,576 bytes, without its LF
abbrev pub DoesLine : Played → List ℕ → List Line → Played → Type 0
DoesLine old line printed new = (length line ≤ 1048576) × ((meant : Parsed) × IsParsed (utf8_lossy line) meant × DoesParsed old meant printed new)

-- the lines of a script, one after the other, and what they print in order
abbrev pub DoesLines : Played → List (List ℕ) → List Line → Played → Type 0
DoesLines old [] printed new = (printed ≡ []) × (new ≡ old)
DoesLines old (line ∷ rest) printed new =
    (mid : Played) × (here : List Line) × (later : List Line) × DoesLine old line here mid × DoesLines mid rest later new × (printed ≡ here ++ later)

-- what a script of at most 1,000,000 lines prints on a world, of whose messages none was delivered
pub record IsOfScript (text : Option (List ℕ)) (old : WorldView) (printed : List Line) : Type 0 where
  pub texts : List (List ℕ)
  pub whole : AreLines text texts
  pub few : length texts ≤ 1000000
  pub new : Played
  pub does : DoesLines (played old []) texts printed new

-- what the lines so far print on a world, and how many they were
pub record IsOfPart (text after : Option (List ℕ)) (count : ℕ) (old : WorldView) (printed : List Line) (new : Played) : Type 0 where
  pub texts : List (List ℕ)
  pub first : Passes text texts after
  pub counted : length texts ≡ count
  pub few : count ≤ 1000000
  pub does : DoesLines (played old []) texts printed new

-- lines of which P holds are written after the bytes before, where those are known
abbrev pub Wrote : (List Line → Type 0) → Option (List ℕ) → Option (List ℕ) → Type 0
Wrote P before after = (printed : List Line) × P printed × Appends before after (lines_text printed)

-- the same, but a front of their bytes alone
abbrev pub WroteFront : (List Line → Type 0) → Option (List ℕ) → Option (List ℕ) → Type 0
WroteFront P before after = (printed : List Line) × P printed × AppendsFront before after (lines_text printed)

-- Scripts with crashes: what their lines do to a world, and what they write.
use Rattle.std.specs.Prelude.{◌≡◌, ◌⊎◌, ◌≤◌, ℕ, List, [], ◌∷◌, ◌++◌, codes, decimal, length, Option, Some, is_some, Result, Ok, Err}
use Rattle.node_core.specs.declared.refusals.Fault.{Fault}
use Rattle.node_core.specs.declared.lines.Line.{Line}
use Rattle.node_core.specs.declared.lines.Line.TheVariants as lines
use Rattle.rows_cell.specs.declared.tables.Rows.{Rows}
use Rattle.world_steps.specs.World.{WorldView}
use Rattle.world_steps.specs.Crash.{left_at, crashed, gone_lines, IsCrash, IsNoCrash}
use Rattle.scripts.specs.Ran.{Ran, RanWell}
use Rattle.scripts.specs.Scripts.{DoesLine}
use Rattle.scripts.specs.Settling.{Played, played}
use Rattle.scripts.specs.Steps.{IsNumber}
use Rattle.scripts.specs.Texts.{AreLines, Passes}

-- ---- a line

-- the words of a crash, and the number of the rows that it leaves: the first, or those that are named
abbrev pub WritesCrash : List ℕ → ℕ → Type 0
WritesCrash line number = ((line ≡ codes "crash") × (number ≡ 1)) ⊎ ((line ≡ codes "crash " ++ decimal number) × IsNumber number)

-- the crash, or its refusal
abbrev pub CrashesTo : ℕ → WorldView → WorldView → List Line → Type 0
CrashesTo number old new printed = IsCrash number old new printed ⊎ ((fault : Fault) × IsNoCrash number fault old new × (printed ≡ lines.Refused fault ∷ []))

-- what was delivered before a crash is delivered after it
abbrev pub PlaysCrash : ℕ → Played → List Line → Played → Type 0
PlaysCrash number old printed new = CrashesTo number old.view new.view printed × (new.delivered ≡ old.delivered)

-- a line of any script, or a crash
abbrev pub DoesOrCrashes : Played → List ℕ → List Line → Played → Type 0
DoesOrCrashes old line printed new = DoesLine old line printed new ⊎ ((number : ℕ) × WritesCrash line number × PlaysCrash number old printed new)

-- ---- all lines

abbrev pub DoesCrashing : Played → List (List ℕ) → List Line → Played → Type 0
DoesCrashing old [] printed new = (printed ≡ []) × (new ≡ old)
DoesCrashing old (line ∷ rest) printed new =
    (mid : Played) × (here : List Line) × (later : List Line) × DoesOrCrashes old line here mid × DoesCrashing mid rest later new × (printed ≡ here ++ later)

-- what a script of at most 1,000,000 lines prints on a world, of whose messages none was delivered
pub record IsOfCrashes (text : Option (List ℕ)) (old new : WorldView) (printed : List Line) : Type 0 where
  pub texts : List (List ℕ)
  pub whole : AreLines text texts
  pub few : length texts ≤ 1000000
  pub last : Played
  pub is : last.view ≡ new
  pub does : DoesCrashing (played old []) texts printed last

-- what the lines so far print on a world, and how many they were
pub record IsOfCrashPart (text after : Option (List ℕ)) (count : ℕ) (old : WorldView) (printed : List Line) (new : Played) : Type 0 where
  pub texts : List (List ℕ)
  pub first : Passes text texts after
  pub counted : length texts ≡ count
  pub few : count ≤ 1000000
  pub does : DoesCrashing (played old []) texts printed new

-- ---- what was run

-- runs with a crash between each and the next, which leaves the rows of this number, and what is printed of them all
abbrev pub RunsBetween : WorldView → List ℕ → List Line → WorldView → Type 0
RunsBetween old [] printed new = Ran old new printed
RunsBetween old (number ∷ others) printed new =
    (mid : WorldView) × (here : List Line) × (later : List Line) × (rows : Rows) × Ran old mid here × (left_at mid.may_leave number ≡ Some rows) × RunsBetween (crashed mid rows) others later new × (printed ≡ here ++ (gone_lines (is_some mid.world.master) ++ later))

abbrev pub Between : WorldView → WorldView → List Line → Type 0
Between old new printed = (crashes : List ℕ) × RunsBetween old crashes printed new

-- the same, and all laws of runs hold of each of them
abbrev pub RunsThrough : WorldView → List ℕ → List Line → WorldView → Type 0
RunsThrough old [] printed new = RanWell old new printed
RunsThrough old (number ∷ others) printed new =
    (mid : WorldView) × (here : List Line) × (later : List Line) × (rows : Rows) × RanWell old mid here × (left_at mid.may_leave number ≡ Some rows) × RunsThrough (crashed mid rows) others later new × (printed ≡ here ++ (gone_lines (is_some mid.world.master) ++ later))

abbrev pub Through : WorldView → WorldView → List Line → Type 0
Through old new printed = (crashes : List ℕ) × RunsThrough old crashes printed new

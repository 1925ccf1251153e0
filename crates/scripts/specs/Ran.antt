-- What a script ran, however it ended.
use Rattle.std.specs.Prelude.{◌≡◌, ◌⊎◌, ⊤, ℕ, ◌+◌, ◌≤◌, ◌<◌, Bool, true, false, List, [], ◌∷◌, ◌++◌, length, Option, Some, Result, Ok, Err}
use Rattle.std.specs.Str.Lossy.{utf8_lossy}
use Rattle.node_core.specs.declared.refusals.Fault.{Fault}
use Rattle.node_core.specs.declared.lines.Line.{Line}
use Rattle.node_core.specs.declared.lines.Line.TheVariants as lines
use Rattle.rows_cell.specs.Rows.{map_of}
use Rattle.rows_cell.specs.Sound.{is_live_in}
use Rattle.rows_cell.specs.Stores.{Store}
use Rattle.world_steps.specs.declared.steps.Step.{Step}
use Rattle.world_steps.specs.World.{WorldView, IsUndoubted}
use Rattle.world_cell.specs.Runs.{AnyRun, map_at, after_lines, epoch_at, live_at, applied, Rises}
use Rattle.world_cell.specs.Served.{ServesPresentByThen}
use Rattle.world_cell.specs.RunLaws.{HoldsOfRun}
use Rattle.scripts.specs.declared.stops.ScriptStop.{ScriptStop}
use Rattle.scripts.specs.declared.stops.ScriptStop.TheVariants.{BadStep, Unread, NoMemory, Unwritten}
use Rattle.scripts.specs.Settling.{Played, played, TakesTurn, SettlesSome}
use Rattle.scripts.specs.Scripts.{lines_text, DoesParsed, IsOfPart, IsOfScript, Wrote, WroteFront}
use Rattle.scripts.specs.declared.steps.Parsed.{Parsed}
use Rattle.scripts.specs.declared.steps.Parsed.TheVariants as parsed
use Rattle.scripts.specs.Readings.{IsParsed}
use Rattle.std.specs.Io.KnownBytes.{Appends}
use Rattle.output.specs.Fronts.{AppendsFront}
use Rattle.scripts.specs.Stops.{status_of}
use Rattle.scripts.specs.Texts.{Passes}

-- the lines of a run, and between them refusals of lines that are no steps for a word in them
abbrev pub Adds : List Line → List Line → Type 0
Adds told [] = told ≡ []
Adds told (line ∷ printed) =
    ((rest : List Line) × (told ≡ line ∷ rest) × Adds rest printed)
    ⊎ ((fault : Fault) × (line ≡ lines.Refused fault) × Adds told printed)

-- steps of the world, one after the other, and what was printed of them
pub record Ran (old new : WorldView) (printed : List Line) : Type 0 where
  pub steps : List Step
  pub told : List Line
  pub run : AnyRun old steps told new
  pub tells : Adds told printed

-- what the printed lines tell then
pub record TellsOfRun (old new : WorldView) (printed : List Line) : Type 0 where
  -- whatever a client serves from its cache is what the map holds of that name by then
  pub served : ServesPresentByThen (map_of old.world.rows) printed
  -- each call is applied at most once
  pub once : (client : ℕ) → 1 ≤ client → Rises (applied client printed)
  -- the rows hold the map that the printed changes make of the former one, each of which fits the map just before it
  pub map : map_of new.world.rows ≡ map_at (map_of old.world.rows) printed
  pub fits : after_lines (map_of old.world.rows) printed ≡ Some (map_of new.world.rows)
  -- the epoch is that of the last master that came up
  pub epoch : new.world.rows.epoch ≡ epoch_at old.world.rows.epoch printed
  -- a client's session is live where the lines of its start and its end make it so
  pub sessions : (client : ℕ) → is_live_in new.world.rows client ≡ live_at client (is_live_in old.world.rows client) printed

-- these steps, and the laws of runs with them, where nothing is in doubt
pub record RanWell (old new : WorldView) (printed : List Line) : Type 0 where
  pub ran : Ran old new printed
  pub holds : IsUndoubted new → HoldsOfRun old ran.steps ran.told new
  pub tells : IsUndoubted new → TellsOfRun old new printed

-- the line of this number, the next of the text, is no step; or it is too long, or one too many
abbrev pub IsNoStep : Option (List ℕ) → ℕ → Type 0
IsNoStep rest number =
    (line : List ℕ) × (after : Option (List ℕ)) × Passes rest (line ∷ []) after
    × (IsParsed (utf8_lossy line) parsed.Bad ⊎ ((1048576 < length line) ⊎ (1000000 < number)))

-- of a text of which so many lines were read, no more was: the next is no step, or can't be read
abbrev pub StopsReading : Option (List ℕ) → ℕ → ScriptStop → Type 0
StopsReading rest count (BadStep number) = (number ≡ count + 1) × IsNoStep rest number
StopsReading rest count (Unread number) = number ≡ count + 1
StopsReading rest count NoMemory = ⊤
StopsReading rest count Unwritten = ⊤

-- the lines before that of this number were done, each of them whole, and nothing after them
pub record IsDoneBefore (text : Option (List ℕ)) (number : ℕ) (old new : WorldView) (printed : List Line) : Type 0 where
  pub rest : Option (List ℕ)
  pub marks : List Bool
  pub count : ℕ
  pub next : number ≡ count + 1
  pub before : IsOfPart text rest count old printed (played new marks)

-- what a line asks for was done whole; or of a settle some turns
abbrev pub Begins : Played → Parsed → List Line → Played → Type 0
Begins old parsed.Settle printed new = SettlesSome old printed new
Begins old meant printed new = DoesParsed old meant printed new

-- the same of a line of at most 1,048,576 bytes, without its LF
abbrev pub BeginsLine : Played → List ℕ → List Line → Played → Type 0
BeginsLine old line printed new = (length line ≤ 1048576) × ((meant : Parsed) × IsParsed (utf8_lossy line) meant × Begins old meant printed new)

-- of the next line of a text nothing was done, or all of it, or some turns of its settle
abbrev pub BeginsNext : Option (List ℕ) → Played → List Line → Played → Type 0
BeginsNext rest old printed new =
    ((printed ≡ []) × (new ≡ old)) ⊎ ((line : List ℕ) × (after : Option (List ℕ)) × Passes rest (line ∷ []) after × BeginsLine old line printed new)

-- lines were done, each of them whole, and of the next one no more than that
pub record IsDoneInto (text : Option (List ℕ)) (old new : WorldView) (printed : List Line) : Type 0 where
  pub rest : Option (List ℕ)
  pub count : ℕ
  pub mid : Played
  pub marks : List Bool
  pub front : List Line
  pub back : List Line
  pub before : IsOfPart text rest count old front mid
  pub next : BeginsNext rest mid back (played new marks)
  pub tells : printed ≡ front ++ back

-- what was done of a text if a script ended so: all its lines; those before the one that is no step or can't be read; or, for
-- want of memory or as lines can't be written, those before one, and of that one nothing, or all, or some turns of its settle
abbrev pub Ends : Option (List ℕ) → WorldView → WorldView → Result (Unit {0}) ScriptStop → List Line → Type 0
Ends text old new (Ok x) printed = (all : IsOfScript text old printed) × (all.new.view ≡ new)
Ends text old new (Err (BadStep number)) printed = (done : IsDoneBefore text number old new printed) × IsNoStep done.rest number
Ends text old new (Err (Unread number)) printed = IsDoneBefore text number old new printed
Ends text old new (Err NoMemory) printed = IsDoneInto text old new printed
Ends text old new (Err Unwritten) printed = IsDoneInto text old new printed

-- that, and the laws of the run that it is
abbrev pub EndsWell : Option (List ℕ) → WorldView → WorldView → Result (Unit {0}) ScriptStop → List Line → Type 0
EndsWell text old new ended printed = Ends text old new ended printed × RanWell old new printed

-- the same where nothing is in doubt: the laws hold
pub record EndsSurely (text : Option (List ℕ)) (old new : WorldView) (ended : Result (Unit {0}) ScriptStop) (printed : List Line) : Type 0 where
  pub ends : Ends text old new ended printed
  pub ran : Ran old new printed
  pub holds : HoldsOfRun old ran.steps ran.told new
  pub tells : TellsOfRun old new printed

-- lines of which P holds are written whole; where they can't be written, a front of them is
abbrev pub EndsIn : {X : Type 0} → Result X ScriptStop → (List Line → Type 0) → Option (List ℕ) → Option (List ℕ) → Type 0
EndsIn (Ok x) P before after = Wrote P before after
EndsIn (Err Unwritten) P before after = WroteFront P before after
EndsIn (Err stop) P before after = Wrote P before after

-- what came to an end did what P says; what stopped before did what Q says; and the lines of it are written whole;
-- where they can't be, a front of them is
abbrev pub EndsAs : {X : Type 0} → Result X ScriptStop → (X → List Line → Type 0) → (ScriptStop → List Line → Type 0) → Option (List ℕ) → Option (List ℕ) → Type 0
EndsAs (Ok x) P Q before after = Wrote (P x) before after
EndsAs (Err Unwritten) P Q before after = WroteFront (Q Unwritten) before after
EndsAs (Err stop) P Q before after = Wrote (Q stop) before after

-- a turn was made, and its lines can't be written
abbrev pub BreaksTurn : Played → Played → ScriptStop → List Line → Type 0
BreaksTurn old new Unwritten printed = (more : Bool) × TakesTurn more old printed new
BreaksTurn old new stop printed = ⊥

-- a line that is a step stops for want of memory, or as its lines can't be written
abbrev pub Breaks : Parsed → Played → Played → ScriptStop → List Line → Type 0
Breaks meant old new NoMemory printed = Begins old meant printed new
Breaks meant old new Unwritten printed = Begins old meant printed new
Breaks meant old new stop printed = ⊥

-- a line stops so too, or before anything is done of it; or it is no step, and does nothing
abbrev pub BreaksLine : List ℕ → ℕ → Played → Played → ScriptStop → List Line → Type 0
BreaksLine line number old new (BadStep at) printed = (at ≡ number) × IsParsed (utf8_lossy line) parsed.Bad × (printed ≡ []) × (new ≡ old)
BreaksLine line number old new (Unread at) printed = ⊥
BreaksLine line number old new stop printed = ((printed ≡ []) × (new ≡ old)) ⊎ BeginsLine old line printed new

-- lines are written whole; or they can't be, and a front of them is
abbrev pub Writes : {X : Type 0} → Result X ScriptStop → List Line → Option (List ℕ) → Option (List ℕ) → Type 0
Writes (Ok x) printed before after = Appends before after (lines_text printed)
Writes (Err stop) printed before after = (stop ≡ Unwritten) × AppendsFront before after (lines_text printed)

-- a line that is a step was obeyed, and one that isn't does nothing
abbrev pub Obeys : Bool → Played → Parsed → List Line → Played → Type 0
Obeys true old meant printed new = DoesParsed old meant printed new
Obeys false old meant printed new = (meant ≡ parsed.Bad) × (printed ≡ []) × (new ≡ old)

abbrev pub status_at : Result (Unit {0}) ScriptStop → ℕ
status_at (Ok x) = 0
status_at (Err stop) = status_of stop

-- with this status a script came to its end; or to a line that is no step or can't be read, or to want of memory, and
-- what it printed before is written whole; or that can't be written, and a front of it is
abbrev pub EndsWith : ℕ → (Result (Unit {0}) ScriptStop → List Line → Type 0) → Option (List ℕ) → Option (List ℕ) → Type 0
EndsWith status P before after = (ended : Result (Unit {0}) ScriptStop) × (status ≡ status_at ended) × EndsIn ended (P ended) before after

-- records of a type in which none is ever in doubt
abbrev pub IsNeverInDoubt : {R : Type 0} → (R → Store) → Type 0
IsNeverInDoubt {R} store = (records : R) → (store records).doubt ≡ 0

-- a script ended so on a world: to some world, and all laws of runs hold between
abbrev pub RunsSurely : ℕ → Option (List ℕ) → WorldView → Option (List ℕ) → Option (List ℕ) → Type 0
RunsSurely status text old before after = (new : WorldView) × EndsWith status (EndsSurely text old new) before after

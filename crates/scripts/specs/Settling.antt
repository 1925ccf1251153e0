-- What `settle` does.
use Rattle.std.specs.Prelude.{◌≡◌, ◌≢◌, ◌⊎◌, ⊤, ℕ, zero, suc, ◌+◌, ◌-◌, Bool, true, false, ◌&&◌, not, List, [], ◌∷◌, ◌++◌, Option, Some, None, is_some, Result, Ok, Err}
use Rattle.std.specs.Option.{unwrap_or}
use Rattle.std.specs.List.{slice_get}
use Rattle.node_core.specs.declared.refusals.Fault.{Fault}
use Rattle.node_core.specs.declared.refusals.Fault.TheVariants.{MasterDown}
use Rattle.node_core.specs.declared.lines.Line.{Line}
use Rattle.node_core.specs.declared.lines.Line.TheVariants as lines
use Rattle.world_steps.specs.declared.steps.Step.{Step}
use Rattle.world_steps.specs.declared.steps.Step.TheVariants as steps
use Rattle.world_steps.specs.declared.parts.SweepResult.{SweepResult}
use Rattle.world_steps.specs.declared.mail.Message.{Message}
use Rattle.world_steps.specs.declared.mail.Message.TheVariants as messages
use Rattle.world_steps.specs.World.{WorldState, WorldView, world_sweep}
use Rattle.world_steps.specs.Made.{WasMade, WasRefused}

-- ---- what was delivered

-- a world, and for each of its messages in turn whether it came to its receiver; a message without a mark came to nobody
pub record Played : Type 0 where
  pub view : WorldView
  pub delivered : List Bool

abbrev pub played : WorldView → List Bool → Played
played view delivered = record { view = view; delivered = delivered }

-- the step that delivers a message
abbrev pub step_of : Message → ℕ → Step
step_of (messages.ToMaster request) number = steps.Take number
step_of (messages.ToClient out) number = steps.Give number

-- the first message that came to nobody, with the number of the list's first message
abbrev pub first_waiting : List Message → List Bool → ℕ → Option Step
first_waiting [] marks number = None
first_waiting (message ∷ rest) [] number = Some (step_of message number)
first_waiting (message ∷ rest) (true ∷ marks) number = first_waiting rest marks (number + 1)
first_waiting (message ∷ rest) (false ∷ marks) number = Some (step_of message number)

-- each of the first so many messages came to its receiver
abbrev pub AreDelivered : ℕ → List Bool → Type 0
AreDelivered zero marks = ⊤
AreDelivered (suc count) [] = ⊥
AreDelivered (suc count) (mark ∷ marks) = (mark ≡ true) × AreDelivered count marks

-- the first place without a mark
pub record IsFirst (place : ℕ) (marks : List Bool) : Type 0 where
  pub before : AreDelivered place marks
  pub here : slice_get marks place ≢ Some true

-- one place is marked
abbrev pub marked : List Bool → ℕ → List Bool
marked [] zero = true ∷ []
marked [] (suc place) = false ∷ marked [] place
marked (mark ∷ marks) zero = true ∷ marks
marked (mark ∷ marks) (suc place) = mark ∷ marked marks place

-- the place of the message that a step delivers
abbrev pub place_of : Step → Option ℕ
place_of (steps.Take number) = Some (number - 1)
place_of (steps.Give number) = Some (number - 1)
place_of _ = None

abbrev pub marked_at : List Bool → Option ℕ → List Bool
marked_at marks None = marks
marked_at marks (Some place) = marked marks place

-- a step that was made, and the message that it delivers
pub record PlaysMade (old : Played) (step : Step) (new : Played) (printed : List Line) : Type 0 where
  pub made : WasMade old.view step new.view printed
  pub delivered : new.delivered ≡ marked_at old.delivered (place_of step)

-- a refused one delivers nothing
pub record PlaysRefused (old : Played) (step : Step) (new : Played) (printed : List Line) : Type 0 where
  pub refused : WasRefused old.view step new.view printed
  pub same : new.delivered ≡ old.delivered

-- ---- settle

-- the step that `settle` makes next: it delivers the first message that came to nobody, or else the master sweeps
abbrev pub turn_step : Played → Step
turn_step s = unwrap_or (first_waiting s.view.world.messages s.delivered 1) steps.Sweep

-- whether a message came to nobody
abbrev pub is_waiting : Played → Bool
is_waiting s = is_some (first_waiting s.view.world.messages s.delivered 1)

abbrev pub is_quiet : Result (WorldState × SweepResult) Fault → Bool
is_quiet (Ok p) = p.1.quiet
is_quiet (Err fault) = false

-- whether a turn is a sweep that finds nothing to do
abbrev pub is_idle : Played → Bool
is_idle s = not (is_waiting s) && is_quiet (world_sweep s.view.world s.view.world.master)

-- a turn that was made, and whether it was the last: it found nothing to do, and no message is left
pub record IsTurn (over : Bool) (old : Played) (printed : List Line) (new : Played) : Type 0 where
  pub made : PlaysMade old (turn_step old) new printed
  pub ends : (is_idle old && not (is_waiting new)) ≡ over

-- a turn after which others follow, or the last one, which may also be refused
abbrev pub TakesTurn : Bool → Played → List Line → Played → Type 0
TakesTurn true old printed new = IsTurn false old printed new
TakesTurn false old printed new = IsTurn true old printed new ⊎ PlaysRefused old (turn_step old) new printed

-- so many turns, each with others after it
abbrev pub Turns : ℕ → Played → List Line → Played → Type 0
Turns zero old printed new = (printed ≡ []) × (new ≡ old)
Turns (suc count) old printed new =
    (mid : Played) × (here : List Line) × (later : List Line) × TakesTurn true old here mid × Turns count mid later new × (printed ≡ here ++ later)

-- turns until nothing is left to do
pub record AreTurns (old : Played) (printed : List Line) (new : Played) : Type 0 where
  pub count : ℕ
  pub mid : Played
  pub here : List Line
  pub later : List Line
  pub first : Turns count old here mid
  pub last : TakesTurn false mid later new
  pub tells : printed ≡ here ++ later

-- turns so far: so many, each with others after it, and perhaps one more, of either kind
pub record SomeTurns (old : Played) (printed : List Line) (new : Played) : Type 0 where
  pub count : ℕ
  pub mid : Played
  pub here : List Line
  pub later : List Line
  pub first : Turns count old here mid
  pub last : ((later ≡ []) × (new ≡ mid)) ⊎ ((more : Bool) × TakesTurn more mid later new)
  pub tells : printed ≡ here ++ later

abbrev pub SettlesSomeBy : Bool → Played → List Line → Played → Type 0
SettlesSomeBy true old printed new = SomeTurns old printed new
SettlesSomeBy false old printed new = (printed ≡ lines.Refused MasterDown ∷ []) × (new ≡ old)

-- some turns of a settle; without a master it is refused
abbrev pub SettlesSome : Played → List Line → Played → Type 0
SettlesSome old printed new = SettlesSomeBy (is_some old.view.world.master) old printed new

abbrev pub SettlesBy : Bool → Played → List Line → Played → Type 0
SettlesBy true old printed new = AreTurns old printed new
SettlesBy false old printed new = (printed ≡ lines.Refused MasterDown ∷ []) × (new ≡ old)

-- without a master it is refused
abbrev pub Settles : Played → List Line → Played → Type 0
Settles old printed new = SettlesBy (is_some old.view.world.master) old printed new

-- Steps of a world that were made, and steps that were refused.
use Rattle.std.specs.Prelude.{◌≡◌, ◌⊎◌, List, [], ◌∷◌, Ok, Some, true}
use Rattle.std.specs.List.Sorted.{IsStrictlySortedBy}
use Rattle.std.specs.Map.{keys_of}
use Rattle.std.specs.Ordering.{nat_cmp}
use Rattle.std.specs.Cmp.Lexicographic.{slice_cmp}
use Rattle.node_core.specs.declared.refusals.Fault.{Fault}
use Rattle.node_core.specs.declared.lines.Line.{Line}
use Rattle.node_core.specs.declared.lines.Line.TheVariants as lines
use Rattle.rows_cell.specs.declared.tables.Rows.{Rows}
use Rattle.rows_cell.specs.Keys.{lock_order}
use Rattle.tags_cell.specs.Numbers.{is_client_number}
use Rattle.tags_cell.specs.declared.messages.requests.Request.{Request}
use Rattle.tags_cell.specs.Messages.{request_client}
use Rattle.world_steps.specs.declared.steps.Step.{Step}
use Rattle.world_steps.specs.declared.steps.Step.TheVariants as steps
use Rattle.world_steps.specs.Messages.{request_at}
use Rattle.world_steps.specs.World.{WorldState, WorldView, world_step, step_edits, step_frees, IsAt, IsStored, IsLeft, MayRefuseStep}

-- each table of the rows is in the order of its keys
pub record AreInOrder (rows : Rows) : Type 0 where
  pub names : IsStrictlySortedBy (slice_cmp nat_cmp) (keys_of rows.nodes)
  pub sessions : IsStrictlySortedBy nat_cmp (keys_of rows.sessions)
  pub locks : IsStrictlySortedBy lock_order (keys_of rows.locks)

-- what the types of a store and of a message say by themselves: a master comes up by rows in order, and takes messages
-- of clients
abbrev pub IsTyped : WorldState → Step → Type 0
IsTyped w (steps.Up now) = AreInOrder w.rows
IsTyped w (steps.Take number) =
    (request : Request) → request_at w.messages number ≡ Some request → is_client_number (request_client request) ≡ true
IsTyped w _ = Unit {0}

-- the table makes the step, and the store does what it commits
pub record IsMade (old : WorldView) (step : Step) (new : WorldView) (printed : List Line) : Type 0 where
  pub is_step : world_step old.world step ≡ Ok (new.world, printed)
  pub typed : IsTyped old.world step
  pub stored : IsStored (step_frees old.world step) (step_edits old.world step) old new

-- the table refuses the step, or want of memory or the store does; nothing changes, and one line says so
pub record IsRefused (old : WorldView) (step : Step) (new : WorldView) (printed : List Line) : Type 0 where
  pub fault : Fault
  pub why : MayRefuseStep (world_step old.world step) step fault old new
  pub left : IsLeft (step_frees old.world step) (step_edits old.world step) old new
  pub line : printed ≡ lines.Refused fault ∷ []

abbrev pub Does : WorldView → Step → WorldView → List Line → Type 0
Does old step new printed = IsMade old step new printed ⊎ IsRefused old step new printed

-- by the world as it was read where a master comes up
abbrev pub WasMade : WorldView → Step → WorldView → List Line → Type 0
WasMade old step new printed = (at : WorldView) × IsAt step old at × IsMade at step new printed

abbrev pub WasRefused : WorldView → Step → WorldView → List Line → Type 0
WasRefused old step new printed = (at : WorldView) × IsAt step old at × IsRefused at step new printed

abbrev pub AnyStep : WorldView → Step → WorldView → List Line → Type 0
AnyStep old step new printed = WasMade old step new printed ⊎ WasRefused old step new printed

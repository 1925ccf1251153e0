-- What one step of a run does to the handles that hold a lock.
use Rattle.std.specs.Prelude.{◌≡◌, ◌⊎◌, ℕ, Bool, true, false, List, [], ◌∷◌, ◌++◌, map, Contains, Option, Some}
use Rattle.std.specs.Map.{lookup}
use Rattle.std.specs.BTreeMap.{is_at}
use Rattle.node_core.specs.declared.kinds.LockMode.{LockMode}
use Rattle.node_core.specs.declared.lines.Line.{Line}
use Rattle.node_core.specs.declared.lines.Line.TheVariants as lines
use Rattle.node_core.specs.declared.views.Mod.TheVariants.{Gone}
use Rattle.rows_cell.specs.declared.keys.LockKey.{LockKey}
use Rattle.rows_cell.specs.declared.tables.LockRow.{LockRow}
use Rattle.rows_cell.specs.declared.tables.Rows.{Rows}
use Rattle.rows_cell.specs.Indexes.{lock_generation_in, locks_at}
use Rattle.rows_cell.specs.Keys.{lock_order}
use Rattle.rows_cell.specs.Rows.{map_of}
use Rattle.tags_cell.specs.Handles.{read_handle}
use Rattle.tags_cell.specs.declared.handles.Handle.{Handle}
use Rattle.tags_cell.specs.declared.messages.calls.Call.{Call}
use Rattle.tags_cell.specs.declared.messages.calls.Call.TheVariants as calls
use Rattle.master_parts.specs.Calls.{bytes_of}
use Rattle.master_parts.specs.Claims.{owner_of}
use Rattle.master_parts.specs.Locks.{stored_mode, holder_key}
use Rattle.master_parts.specs.declared.pending.Task.TheVariants as tasks
use Rattle.master_parts.specs.declared.pending.WaitingRequest.{WaitingRequest}
use Rattle.master_parts.specs.declared.pending.Work.TheVariants as works
use Rattle.master_state.specs.State.{MasterState}
use Rattle.world_steps.specs.declared.steps.Step.{Step}
use Rattle.world_steps.specs.Made.{Does}
use Rattle.world_steps.specs.World.{WorldState, WorldView}
use Rattle.world_cell.specs.Locks.{holds_by, instance_in}
use Rattle.world_cell.specs.Runs.{Run}

-- the handle of this key holds its lock, by the rows
abbrev pub is_held : Rows → LockKey → Bool
is_held rows key = holds_by (locks_at rows.locks key.instance) key

-- a handle got its lock: its line has the mode of its row, and the generation that the lock has
pub record GotLock (new : Rows) (printed : List Line) (key : LockKey) : Type 0 where
  pub mode : LockMode
  pub generation : ℕ
  pub row : LockRow
  pub found : lookup (is_at (lock_order key)) (locks_at new.locks key.instance) ≡ Some row
  pub in_mode : row.state ≡ stored_mode mode
  pub counted : lock_generation_in new.nodes key.instance ≡ Some generation
  pub told : Contains printed (lines.Locked key.client key.instance mode generation)

abbrev pub lets_go : Call → Bool
lets_go (calls.Release bytes) = true
lets_go (calls.Close bytes) = true
lets_go call = false

-- a Release or a Close of that handle had its turn
pub record WasLetGo (old : WorldState) (printed : List Line) (key : LockKey) : Type 0 where
  pub master : MasterState
  pub is_up : old.master ≡ Some master
  pub asked : WaitingRequest
  pub waited : Contains (map (λ w. w.change.body) master.gate.waiting) (tasks.Asked asked)
  pub call : Call
  pub sequencer : Option (List ℕ)
  pub work : asked.work ≡ works.Calls call sequencer
  pub lets : lets_go call ≡ true
  pub handle : Handle
  pub reads : read_handle master.secret (bytes_of call) ≡ Some handle
  pub own : holder_key handle.instance (owner_of handle) ≡ key
  pub told : Contains printed (lines.Freed key.client key.instance)

-- the node of the lock went
pub record NodeWent (old : Rows) (printed : List Line) (key : LockKey) : Type 0 where
  pub client : ℕ
  pub number : ℕ
  pub name : List ℕ
  pub names : List (List ℕ)
  pub told : Contains printed (lines.Applied client number (Gone name) names)
  pub at : instance_in (map_of old) name ≡ Some key.instance

abbrev pub LostLock : WorldState → List Line → LockKey → Type 0
LostLock old printed key = WasLetGo old printed key ⊎ Contains printed (lines.Ended key.client) ⊎ NodeWent old.rows printed key

-- by one step a handle gets a lock only with its line, and loses it only so
pub record TellsOfHolders (old : WorldState) (printed : List Line) (new : WorldState) : Type 0 where
  pub gets : (key : LockKey) → is_held old.rows key ≡ false → is_held new.rows key ≡ true → GotLock new.rows printed key
  pub loses : (key : LockKey) → is_held old.rows key ≡ true → is_held new.rows key ≡ false → LostLock old printed key

-- each step of a run
abbrev pub StepsTellOfHolders : WorldView → List Step → WorldView → Type 0
StepsTellOfHolders old steps new =
    (front rest : List Step) (step : Step) (here next : WorldView) (before printed after : List Line) → steps ≡ front ++ step ∷ rest → Run old front before here → Does here step next printed → Run next rest after new
    → TellsOfHolders here.world printed next.world

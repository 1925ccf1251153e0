-- Of what a step gives notice.
use Rattle.std.specs.Prelude.{ℕ, Bool, true, false, ◌==◌, List, [], ◌∷◌, ◌++◌, Option, Some, None, if◌then◌else◌, is_none}
use Rattle.std.specs.Option.{option_map, option_map_or, option_and_then}
use Rattle.names_cell.specs.Text.{parent_of}
use Rattle.node_core.specs.declared.nodes.Node.{Node}
use Rattle.node_core.specs.declared.views.Mod.{Mod}
use Rattle.node_core.specs.declared.views.Mod.TheVariants.{Put, Gone}
use Rattle.node_core.specs.Nodes.{get_node}
use Rattle.lock_core.specs.Locks.{LockTable, lock_at}
use Rattle.tags_cell.specs.Handles.{read_handle}
use Rattle.tags_cell.specs.declared.messages.calls.Call.{Call}
use Rattle.tags_cell.specs.declared.messages.outs.CallResult.{CallResult}
use Rattle.master_state.specs.declared.updates.Change.{Change}
use Rattle.master_state.specs.declared.updates.LockPut.{LockPut}
use Rattle.master_parts.specs.declared.notices.Notice.{Notice}
use Rattle.master_state.specs.Updates.{new_generation}
use Rattle.master_state.specs.State.{MasterState}
use Rattle.cell_core.specs.declared.effects.Effect.{Effect}
use Rattle.node_core.specs.declared.refusals.Fault.TheVariants as faults
use Rattle.tags_cell.specs.declared.messages.calls.Call.TheVariants as calls
use Rattle.tags_cell.specs.declared.messages.outs.CallResult.TheVariants as results
use Rattle.master_parts.specs.declared.notices.Notice.TheVariants as notices

-- ---- a change of the map

-- the directory above a name is told of its child
abbrev pub above : MasterState → List ℕ → (ℕ → Notice) → List Notice
above s name notice = option_map_or (λ directory. notice directory.instance ∷ []) (option_and_then (get_node s.nodes) (parent_of name)) []

-- a new child, other content, or other ACLs, which are told to nobody
abbrev pub put_notices : MasterState → List ℕ → Node → Option Node → List Notice
put_notices s name node None = above s name (λ directory. notices.ChildAdded directory name)
put_notices s name node (Some former) =
    if former.content_generation == node.content_generation then []
    else notices.Contents node.instance node.content_generation ∷ above s name (λ directory. notices.ChildModified directory name)

-- a node that goes
abbrev pub gone_notices : MasterState → List ℕ → Option Node → List Notice
gone_notices s name None = []
gone_notices s name (Some former) = notices.Invalid former.instance ∷ above s name (λ directory. notices.ChildRemoved directory name)

abbrev pub mod_notices : MasterState → Mod → List Notice
mod_notices s (Put name node) = put_notices s name node (get_node s.nodes name)
mod_notices s (Gone name) = gone_notices s name (get_node s.nodes name)

abbrev pub change_notices : MasterState → Option Change → List Notice
change_notices s None = []
change_notices s (Some change) = mod_notices s change.change

-- ---- locks

-- its generation rises where it goes from free to held
abbrev pub lock_notices : LockTable → LockPut → List Notice
lock_notices locks put = if is_none (new_generation (lock_at locks put.instance) put.lock) then [] else notices.Locked put.instance ∷ []

abbrev pub locks_notices : LockTable → List LockPut → List Notice
locks_notices locks [] = []
locks_notices locks (put ∷ puts) = lock_notices locks put ++ locks_notices locks puts

abbrev pub is_held : Option CallResult → Bool
is_held (Some (results.Refused (faults.Held mode))) = true
is_held _ = false

-- the instance of the handle that a call shows
abbrev pub shown_instance : MasterState → List ℕ → Option ℕ
shown_instance s bytes = option_map (λ handle. handle.instance) (read_handle s.secret bytes)

-- whose lock a call asks for while it is held: an Acquire that begins to wait, and a TryAcquire that is refused for it
abbrev pub contested_by : MasterState → Call → Effect → Option ℕ
contested_by s (calls.Acquire bytes mode) effected = if is_none effected.answer then shown_instance s bytes else None
contested_by s (calls.TryAcquire bytes mode) effected = if is_held effected.answer then shown_instance s bytes else None
contested_by s _ effected = None

abbrev pub contest_notices : Option ℕ → List Notice
contest_notices None = []
contest_notices (Some instance) = notices.Conflict instance ∷ []

-- Of which name a call speaks, by what stands in it alone; and which names a change touches while it waits.
use Rattle.std.specs.Prelude.{◌≡◌, ℕ, List, [], ◌∷◌, Option, Some, None, if◌then◌else◌, is_none}
use Rattle.std.specs.Option.{option_map, option_and_then}
use Rattle.node_core.specs.declared.views.View.{View}
use Rattle.tags_cell.specs.Handles.{read_handle}
use Rattle.tags_cell.specs.declared.messages.calls.Call.{Call}
use Rattle.tags_cell.specs.declared.messages.requests.CallMessage.{CallMessage}
use Rattle.tags_cell.specs.declared.messages.outs.CallResult.{CallResult}
use Rattle.master_parts.specs.declared.pending.Task.{Task}
use Rattle.master_parts.specs.declared.pending.Work.{Work}
use Rattle.master_state.specs.State.{MasterState}
use Rattle.node_core.specs.Nodes.{with_parent}
use Rattle.cell_core.specs.declared.asking.TouchedNames.{TouchedNames}
use Rattle.cell_core.specs.declared.asking.TouchedNames.TheVariants.{WithParent}
use Rattle.cell_core.specs.Step.{touched_by, names_of, task_of, admission_for}
use Rattle.master_parts.specs.Calls.{bytes_of}
use Rattle.tags_cell.specs.declared.messages.calls.Call.TheVariants as calls
use Rattle.tags_cell.specs.declared.messages.outs.CallResult.TheVariants as results
use Rattle.master_parts.specs.declared.pending.Task.TheVariants as tasks
use Rattle.master_parts.specs.declared.pending.Work.TheVariants as works

-- what it touches: the names whose view it may change
abbrev pub call_touched : List ℕ → Call → Option TouchedNames
call_touched secret (calls.Open opening) = option_map (λ create. WithParent opening.name) opening.create
call_touched secret call = option_and_then (λ handle. touched_by handle call) (read_handle secret (bytes_of call))

-- a Start touches no name
abbrev pub names_touched_by : List ℕ → Work → List (List ℕ)
names_touched_by secret (works.Starts principal received) = []
names_touched_by secret (works.Calls call sequencer) = names_of (call_touched secret call)

-- the names that a change touches while it waits: a call those whose view it may change, and the cell's own deletion of a node its name and the one above
abbrev pub names_touched : List ℕ → Task → List (List ℕ)
names_touched secret (tasks.Asked asked) = names_touched_by secret asked.work
names_touched secret (tasks.Tidies idle) = with_parent idle.name

-- a call that waits is queued with the names that it touches
abbrev pub QueuesWhatItTouches : Type 0
QueuesWhatItTouches =
    (s : MasterState) (message : CallMessage) → (admission_for s message).answer ≡ None
    → names_of (admission_for s message).touched ≡ names_touched s.secret (tasks.Asked (task_of message))

-- the name of which it asks what it shows
abbrev pub name_asked : List ℕ → Call → Option (List ℕ)
name_asked secret (calls.Open opening) = if is_none opening.create then Some opening.name else None
name_asked secret (calls.Read bytes) = option_map (λ handle. handle.name) (read_handle secret bytes)
name_asked secret (calls.List bytes) = option_map (λ handle. handle.name) (read_handle secret bytes)
name_asked secret _ = None

-- what an answer tells of that name: the view of its node, or that there is none
abbrev pub shown_by : CallResult → Option View
shown_by (results.Viewed view) = Some view
shown_by (results.Listed view) = Some view
shown_by _ = None

-- Opens, and what a client keeps of the handles that they give.
use Rattle.std.specs.Prelude.{ℕ, ◌==◌, ◌&&◌, Bool, true, false, not, is_none, List, Option, Some, None, if◌then◌else◌}
use Rattle.node_core.specs.declared.kinds.Kind.{Kind}
use Rattle.node_core.specs.declared.kinds.Kind.TheVariants as kinds
use Rattle.node_core.specs.declared.kinds.Life.{Life}
use Rattle.node_core.specs.declared.kinds.Life.TheVariants as lives
use Rattle.node_core.specs.declared.refusals.Fault.TheVariants as faults
use Rattle.node_core.specs.declared.answers.Answer.{Answer}
use Rattle.node_core.specs.declared.answers.Answer.TheVariants as answers
use Rattle.node_core.specs.declared.views.View.{View}
use Rattle.tags_cell.specs.Masks.{is_no_events}
use Rattle.tags_cell.specs.Modes.{Rights}
use Rattle.tags_cell.specs.declared.messages.calls.Open.{Open}
use Rattle.tags_cell.specs.declared.messages.outs.NewHandle.{NewHandle}
use Rattle.client_core.specs.declared.parts.asks.NodeCall.{NodeCall}
use Rattle.client_core.specs.declared.parts.asks.NodeCall.TheVariants as node_calls
use Rattle.client_core.specs.declared.parts.handles.ClientHandle.{ClientHandle}

-- it makes nothing
abbrev pub is_plain : Open → Bool
is_plain opening = is_none opening.create

-- to read, and for nothing else
abbrev pub is_read_only : Rights → Bool
is_read_only mode = mode.read && (not mode.write && not mode.change)

abbrev pub is_permanent : Life → Bool
is_permanent lives.Permanent = true
is_permanent lives.Ephemeral = false

-- an Open to read alone, without a lock-delay and without events
abbrev pub only_reads : Open → Bool
only_reads opening = is_read_only opening.mode && (opening.delay == 0 && is_no_events opening.events)

-- the handles that are kept and shared: of such a plain Open, on a permanent node
abbrev pub is_shareable : NewHandle → Open → Bool
is_shareable handle opening = is_plain opening && (only_reads opening && is_permanent handle.life)

-- what is kept of a handle: name and mode are those that were asked for, and it has no sequencer
abbrev pub kept_handle : NewHandle → Open → Bool → ClientHandle
kept_handle handle opening shared = record {
  bytes = handle.bytes;
  name = opening.name;
  instance = handle.instance;
  mode = opening.mode;
  life = handle.life;
  poisoned = false;
  shared = shared;
  sequencer = None;
}

-- ---- what is answered by what is cached under a handle's name

-- the node that the handle is on, if it is the one that is cached
abbrev pub read_answer : ClientHandle → Option View → Answer
read_answer handle None = answers.Refused faults.StaleInstance
read_answer handle (Some view) = if view.node.instance == handle.instance then answers.Viewed view else answers.Refused faults.StaleInstance

-- the children of a directory; of a file the master is asked
abbrev pub names_in : Kind → List (List ℕ) → Option Answer
names_in kinds.Directory children = Some (answers.Names children)
names_in kinds.File children = None

-- the children of the node that the handle is on, if it is the one that is cached
abbrev pub list_answer : ClientHandle → Option View → Option Answer
list_answer handle None = Some (answers.Refused faults.StaleInstance)
list_answer handle (Some view) =
    if view.node.instance == handle.instance then names_in view.node.kind view.children else Some (answers.Refused faults.StaleInstance)

-- a read and a ReadDir are answered, all other calls are for the master
abbrev pub cached_answer : ClientHandle → NodeCall → Option View → Option Answer
cached_answer handle node_calls.Read entry = Some (read_answer handle entry)
cached_answer handle node_calls.List entry = list_answer handle entry
cached_answer handle _ entry = None

-- ---- what a reply teaches of a name

-- a name, and its view or its absence
abbrev pub Lesson : Type 0
Lesson = List ℕ × Option View

-- a plain Open found no node
abbrev pub absent : Option Open → Option Lesson
absent None = None
absent (Some opening) = if is_plain opening then Some (opening.name, None) else None

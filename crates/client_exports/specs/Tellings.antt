-- What came of a step, in parts: plain numbers, and bytes.
use Rattle.std.specs.Prelude.{ℕ, ◌==◌, List, [], length, slice_get, Option, Some, None, if◌then◌else◌}
use Rattle.node_core.specs.declared.kinds.Kind.{Kind}
use Rattle.node_core.specs.declared.kinds.Kind.TheVariants as kinds
use Rattle.node_core.specs.declared.kinds.Life.{Life}
use Rattle.node_core.specs.declared.kinds.Life.TheVariants as lives
use Rattle.node_core.specs.declared.kinds.LockMode.{LockMode}
use Rattle.node_core.specs.declared.kinds.LockMode.TheVariants as locks
use Rattle.node_core.specs.declared.kinds.Right.{Right}
use Rattle.node_core.specs.declared.kinds.Right.TheVariants as rights
use Rattle.node_core.specs.declared.answers.Answer.{Answer}
use Rattle.node_core.specs.declared.answers.Answer.TheVariants as answers
use Rattle.node_core.specs.declared.events.Event.{Event}
use Rattle.node_core.specs.declared.events.Event.TheVariants as events
use Rattle.node_core.specs.declared.lines.Line.{Line}
use Rattle.node_core.specs.declared.lines.Line.TheVariants as lines
use Rattle.node_core.specs.declared.nodes.Node.{Node}
use Rattle.node_core.specs.declared.refusals.Fault.{Fault}
use Rattle.node_core.specs.declared.refusals.Fault.TheVariants as faults
use Rattle.node_core.specs.declared.stats.Stat.{Stat}
use Rattle.node_core.specs.declared.views.View.{View}
use Rattle.node_core.specs.Refusals.{fault_number}
use Rattle.client_exports.specs.declared.tellings.LineParts.{LineParts}
use Rattle.client_exports.specs.Shows.{seen_content}

-- ---- numbers, those by which calls have them

abbrev pub life_number : Life → ℕ
life_number lives.Permanent = 0
life_number lives.Ephemeral = 1

abbrev pub kind_number : Kind → ℕ
kind_number kinds.File = 0
kind_number kinds.Directory = 1

abbrev pub lock_number : LockMode → ℕ
lock_number locks.Exclusive = 0
lock_number locks.Shared = 1

abbrev pub right_number : Right → ℕ
right_number rights.Read = 1
right_number rights.Write = 2
right_number rights.Change = 4

-- what a refusal tells besides, 0 where it tells nothing
abbrev pub fault_argument : Fault → ℕ
fault_argument (faults.WrongKind present) = kind_number present
fault_argument (faults.Denied missing) = right_number missing
fault_argument (faults.WrongGeneration present) = present
fault_argument (faults.BadAck issued) = issued
fault_argument (faults.Held mode) = lock_number mode
fault_argument (faults.Delayed left) = left
fault_argument (faults.OldEpoch present) = present
fault_argument (faults.PassMissing pass) = pass
fault_argument (faults.ReceiptApart place) = place
fault_argument (faults.NoRoom limit) = limit
fault_argument fault = 0

-- ---- lines in plain numbers

-- of this kind, and nothing else
abbrev pub bare : ℕ → LineParts
bare what =
    record {
      what = what;
      fault = 0;
      call = 0;
      handle = 0;
      instance = 0;
      content_generation = 0;
      acl_generation = 0;
      lock_generation = 0;
      length = 0;
      kind = 0;
      life = 0;
      argument = 0;
      opened = 0;
      children = 0;
      event = 0;
    }

abbrev pub viewed : ℕ → ℕ → View → LineParts
viewed what call view = record (bare what) {
  call = call;
  instance = view.node.instance;
  content_generation = view.node.content_generation;
  acl_generation = view.node.acl_generation;
  length = length view.node.content;
  kind = kind_number view.node.kind;
  life = life_number view.node.life;
  children = length view.children;
}

abbrev pub stated : ℕ → Stat → LineParts
stated call stat = record (bare 5) {
  call = call;
  instance = stat.instance;
  content_generation = stat.content_generation;
  acl_generation = stat.acl_generation;
  lock_generation = stat.lock_generation;
  length = stat.length;
  kind = kind_number stat.kind;
  life = life_number stat.life;
}

abbrev pub answer_telling : ℕ → Answer → LineParts
answer_telling call (answers.Opened handle) = record (bare 1) { call = call; handle = handle }
answer_telling call answers.Closed = record (bare 2) { call = call }
answer_telling call answers.Poisoned = record (bare 3) { call = call }
answer_telling call (answers.Viewed view) = viewed 4 call view
answer_telling call (answers.Stated stat) = stated call stat
answer_telling call (answers.Names names) = record (bare 6) { call = call; children = length names }
answer_telling call (answers.Sequencer bytes) = record (bare 7) { call = call; length = length bytes }
answer_telling call answers.Okay = record (bare 8) { call = call }
answer_telling call (answers.Refused fault) = record (bare 9) { call = call; fault = fault_number fault; argument = fault_argument fault }

abbrev pub seen_telling : Option View → LineParts
seen_telling None = bare 11
seen_telling (Some view) = viewed 10 0 view

-- an event of this kind, of the handle that this call opened
abbrev pub happened : ℕ → ℕ → LineParts
happened event opened = record (bare 12) { event = event; opened = opened }

abbrev pub event_telling : Event → LineParts
event_telling events.FailOver = happened 1 0
event_telling (events.Contents opened instance generation) = record (happened 2 opened) { instance = instance; content_generation = generation }
event_telling (events.ChildAdded opened name) = happened 3 opened
event_telling (events.ChildRemoved opened name) = happened 4 opened
event_telling (events.ChildModified opened name) = happened 5 opened
event_telling (events.Invalid opened) = happened 6 opened
event_telling (events.Locked opened) = happened 7 opened
event_telling (events.Conflict opened) = happened 8 opened
event_telling events.Lost = happened 9 0

-- a line that no client prints is of kind 16
abbrev pub line_telling : Line → LineParts
line_telling (lines.Done client call answer) = answer_telling call answer
line_telling (lines.Served client name seen) = seen_telling seen
line_telling (lines.Told client event) = event_telling event
line_telling (lines.Jeopardy client) = bare 13
line_telling (lines.Safe client) = bare 14
line_telling (lines.Lost client) = bare 15
line_telling _ = bare 16

-- 0 where there is no such line
abbrev pub telling_in : Option Line → LineParts
telling_in None = bare 0
telling_in (Some line) = line_telling line

abbrev pub telling_at : List Line → ℕ → LineParts
telling_at printed place = telling_in (slice_get printed place)

-- ---- its bytes

-- those of a sequencer, or the content of a view
abbrev pub answer_bytes : Answer → List ℕ
answer_bytes (answers.Viewed view) = view.node.content
answer_bytes (answers.Sequencer bytes) = bytes
answer_bytes answer = []

abbrev pub told_bytes : Line → List ℕ
told_bytes (lines.Done client call answer) = answer_bytes answer
told_bytes (lines.Served client name seen) = seen_content seen
told_bytes line = []

abbrev pub bytes_in : Option Line → List ℕ
bytes_in None = []
bytes_in (Some line) = told_bytes line

abbrev pub bytes_at : List Line → ℕ → List ℕ
bytes_at printed place = bytes_in (slice_get printed place)

-- ---- its names

-- the last components of the children's names, of a listing or of a view
abbrev pub answer_children : Answer → List (List ℕ)
answer_children (answers.Viewed view) = view.children
answer_children (answers.Names names) = names
answer_children answer = []

abbrev pub seen_children : Option View → List (List ℕ)
seen_children None = []
seen_children (Some view) = view.children

abbrev pub told_children : Line → List (List ℕ)
told_children (lines.Done client call answer) = answer_children answer
told_children (lines.Served client name seen) = seen_children seen
told_children line = []

abbrev pub text_in : Option (List ℕ) → List ℕ
text_in None = []
text_in (Some text) = text

abbrev pub child_in : Option Line → ℕ → List ℕ
child_in None index = []
child_in (Some line) index = text_in (slice_get (told_children line) index)

-- empty where there is no such line, or no such child
abbrev pub child_at : List Line → ℕ → ℕ → List ℕ
child_at printed place index = child_in (slice_get printed place) index

-- the ACL for a right, by the right's number; empty for another number
abbrev pub acl_of : (read write change : List ℕ) → ℕ → List ℕ
acl_of read write change right = if right == 1 then read else if right == 2 then write else if right == 4 then change else []

abbrev pub node_acl : Node → ℕ → List ℕ
node_acl node right = acl_of node.read node.write node.change right

abbrev pub stat_acl : Stat → ℕ → List ℕ
stat_acl stat right = acl_of stat.read stat.write stat.change right

abbrev pub answer_acl : Answer → ℕ → List ℕ
answer_acl (answers.Viewed view) right = node_acl view.node right
answer_acl (answers.Stated stat) right = stat_acl stat right
answer_acl answer right = []

abbrev pub seen_acl : Option View → ℕ → List ℕ
seen_acl None right = []
seen_acl (Some view) right = node_acl view.node right

abbrev pub told_acl : Line → ℕ → List ℕ
told_acl (lines.Done client call answer) right = answer_acl answer right
told_acl (lines.Served client name seen) right = seen_acl seen right
told_acl line right = []

abbrev pub acl_in : Option Line → ℕ → List ℕ
acl_in None right = []
acl_in (Some line) right = told_acl line right

-- empty where there is no such line, or it shows no node
abbrev pub acl_at : List Line → ℕ → ℕ → List ℕ
acl_at printed place right = acl_in (slice_get printed place) right

-- that of a child
abbrev pub event_name : Event → List ℕ
event_name (events.ChildAdded opened name) = name
event_name (events.ChildRemoved opened name) = name
event_name (events.ChildModified opened name) = name
event_name event = []

-- the whole name that an event tells of, or that the cache served
abbrev pub told_name : Line → List ℕ
told_name (lines.Served client name seen) = name
told_name (lines.Told client event) = event_name event
told_name line = []

abbrev pub name_of : Option Line → List ℕ
name_of None = []
name_of (Some line) = told_name line

abbrev pub name_at : List Line → ℕ → List ℕ
name_at printed place = name_of (slice_get printed place)

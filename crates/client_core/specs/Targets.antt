-- What the outstanding call is.
use Rattle.std.specs.Prelude.{ℕ, ◌==◌, Bool, true, false, List, [], ◌∷◌, Option, Some, None, if◌then◌else◌}
use Rattle.node_core.specs.declared.refusals.Fault.TheVariants as faults
use Rattle.node_core.specs.declared.answers.Answer.TheVariants as answers
use Rattle.node_core.specs.declared.lines.Line.{Line}
use Rattle.node_core.specs.declared.lines.Line.TheVariants as lines
use Rattle.tags_cell.specs.declared.messages.calls.Call.{Call}
use Rattle.tags_cell.specs.declared.messages.calls.Call.TheVariants as calls
use Rattle.tags_cell.specs.declared.messages.calls.Open.{Open}
use Rattle.tags_cell.specs.declared.messages.requests.Request.{Request}
use Rattle.tags_cell.specs.declared.messages.requests.Request.TheVariants as requests
use Rattle.tags_cell.specs.Messages.{request_number}
use Rattle.client_core.specs.declared.parts.targets.Outstanding.{Outstanding}
use Rattle.client_core.specs.declared.parts.targets.Target.{Target}
use Rattle.client_core.specs.declared.parts.targets.Target.TheVariants as targets

-- whether it is a call on this handle, and neither a Close nor dropped already
abbrev pub is_on : ℕ → Target → Bool
is_on number targets.NewHandle = false
is_on number (targets.Closing other) = false
is_on number (targets.Handle other) = other == number
is_on number (targets.Sequencing other) = other == number
is_on number targets.Checking = false
is_on number targets.Leaving = false
is_on number targets.Dropped = false

-- it ends the client's session
abbrev pub is_leaving : Target → Bool
is_leaving targets.Leaving = true
is_leaving _ = false

-- what is opened by a call, where it is an Open
abbrev pub opening_in : Call → Option Open
opening_in (calls.Open opening) = Some opening
opening_in _ = None

abbrev pub opening_by : Request → Option Open
opening_by (requests.Start message) = None
opening_by (requests.Beat message) = None
opening_by (requests.Call message) = opening_in message.call

-- the sequencer under which a call was sent
abbrev pub sequencer_by : Request → Option (List ℕ)
sequencer_by (requests.Start message) = None
sequencer_by (requests.Beat message) = None
sequencer_by (requests.Call message) = message.sequencer

-- ---- of the call that has no reply yet, if there is one

abbrev pub opening_of : Option Outstanding → Option Open
opening_of None = None
opening_of (Some call) = opening_by call.request

-- the sequencer under which the outstanding call was sent
abbrev pub sequencer_of : Option Outstanding → Option (List ℕ)
sequencer_of None = None
sequencer_of (Some call) = sequencer_by call.request

-- its reply will be dropped, if it is on the handle
abbrev pub dropped : ℕ → Option Outstanding → Option Outstanding
dropped number None = None
dropped number (Some call) = Some (if is_on number call.target then record call { target = targets.Dropped } else call)

-- nobody knows what became of the outstanding call; one whose reply is dropped was told of before
abbrev pub unknown_line : ℕ → Outstanding → Target → List Line
unknown_line client call targets.Dropped = []
unknown_line client call target = lines.Done client (request_number call.request) (answers.Refused faults.Unknown) ∷ []

abbrev pub unknown_lines : ℕ → Option Outstanding → List Line
unknown_lines client None = []
unknown_lines client (Some call) = unknown_line client call call.target

-- What a master does with a message.
use Rattle.std.specs.Prelude.{ℕ, Bool, false, not, ◌&&◌, ◌||◌, ◌==◌, nat_le, nat_lt, List, [], ◌∷◌, map, Option, Some, None, Result, Ok, Err, if◌then◌else◌, is_none, is_some}
use Rattle.std.specs.Option.{option_and_then}
use Rattle.node_core.specs.declared.refusals.Fault.{Fault}
use Rattle.node_core.specs.Nodes.{with_parent}
use Rattle.lease_core.specs.Lease.{moment_limit}
use Rattle.rights_core.specs.Rights.{grant_answer, granted, clients_to_ask, asked_back, numbers_ending, ended}
use Rattle.gate_core.specs.Gate.{with_change}
use Rattle.tags_cell.specs.declared.handles.Handle.{Handle}
use Rattle.tags_cell.specs.declared.messages.calls.Open.{Open}
use Rattle.tags_cell.specs.declared.messages.calls.Create.{Create}
use Rattle.tags_cell.specs.declared.messages.calls.Call.{Call}
use Rattle.tags_cell.specs.declared.messages.requests.Start.{Start}
use Rattle.tags_cell.specs.declared.messages.beats.Beat.{Beat}
use Rattle.tags_cell.specs.declared.messages.requests.CallMessage.{CallMessage}
use Rattle.tags_cell.specs.declared.messages.requests.Request.{Request}
use Rattle.tags_cell.specs.declared.messages.outs.CallResult.{CallResult}
use Rattle.tags_cell.specs.declared.messages.outs.Reply.{Reply}
use Rattle.master_parts.specs.declared.pending.Taken.{Taken}
use Rattle.session_core.specs.declared.records.LastCall.{LastCall}
use Rattle.session_core.specs.Session.{beat_fault, beaten, kept_answer, keeping}
use Rattle.session_core.specs.Sessions.{with_session, issued_by}
use Rattle.master_parts.specs.declared.pending.WaitingRequest.{WaitingRequest}
use Rattle.master_parts.specs.declared.pending.Task.{Task}
use Rattle.master_parts.specs.declared.handles.HandleNote.{HandleNote}
use Rattle.cell_core.specs.declared.admissions.Admission.{Admission}
use Rattle.cell_core.specs.declared.asking.TouchedNames.{TouchedNames}
use Rattle.cell_core.specs.declared.asking.TouchedNames.TheVariants.{Alone, WithParent}
use Rattle.master_parts.specs.Keys.{key_of}
use Rattle.master_state.specs.NameSpace.{name_space, caller}
use Rattle.master_state.specs.State.{MasterState}
use Rattle.master_state.specs.Lookups.{session_of, kept_of, is_live, may_start, is_full, nothing, turned_away, refusal, reply_of, stamped_reply, sends, repeated, granted_lines, acknowledgement, handle_state_of, shown_handle, is_of_cell, plain_open, opened_answer, opened_note, sequencer_fault, check_answer, answer_on, noted, is_spent}
use Rattle.tags_cell.specs.Messages.{is_leave}
use Rattle.master_parts.specs.Calls.{create_fault, bytes_of}
use Rattle.master_parts.specs.Answered.{answered_by}
use Rattle.master_parts.specs.Notes.{open_note}
use Rattle.master_state.specs.CallsWaiting.{has_call}
use Rattle.master_state.specs.Updates.{with_note}
use Rattle.node_core.specs.declared.refusals.Fault.TheVariants as faults
use Rattle.node_core.specs.declared.lines.Line.TheVariants as lines
use Rattle.gate_core.specs.Gate as of_gate
use Rattle.tags_cell.specs.declared.messages.calls.Call.TheVariants as calls
use Rattle.tags_cell.specs.declared.messages.requests.Request.TheVariants as requests
use Rattle.tags_cell.specs.declared.messages.outs.CallResult.TheVariants as results
use Rattle.tags_cell.specs.declared.messages.outs.Out.TheVariants as outs
use Rattle.master_parts.specs.declared.pending.Task.TheVariants as tasks
use Rattle.master_parts.specs.declared.pending.Work.TheVariants as works

-- ---- what the master keeps

abbrev pub recorded : MasterState → ℕ → LastCall Reply → MasterState
recorded s client kept = record s { sessions = with_session s.sessions client (keeping kept) }

-- what waits after all others, with the names that it touches
abbrev pub queued : MasterState → List (List ℕ) → Task → MasterState
queued s touched task = record s { gate = with_change (record { touched = touched; body = task }) s.gate }

-- a call that is answered at once, by what may not be kept in a cache: its reply is recorded, and sent
abbrev pub replied : MasterState → ℕ → ℕ → CallResult → MasterState × Taken
replied s client number result =
    (recorded s client (answered_by (reply_of s client number result)), sends (reply_of s client number result))

-- ---- rights to keep a name in a cache

-- a client's answer on a name may be kept: no change that waits touches the name, and the client holds it already or there is room for one more right
abbrev pub is_cachable : MasterState → ℕ → List ℕ → Bool
is_cachable s client name = of_gate.is_cachable client name s.rights s.gate.waiting

abbrev pub with_right : MasterState → ℕ → List ℕ → MasterState
with_right s client name = record s { rights = granted client name s.rights }

-- an answer that tells what a name shows, and that its client may keep: it holds the name from then on
abbrev pub granting : MasterState → ℕ → ℕ → CallResult → List ℕ → MasterState × Taken
granting s client number result name = (
  recorded (with_right s client name) client (answered_by (stamped_reply s client number result)),
  record { lines = granted_lines client name (grant_answer client name s.rights); outs = outs.Reply (stamped_reply s client number result) ∷ [] },
)

-- by the name of which an answer tells what it shows, if it does
abbrev pub telling : MasterState → ℕ → ℕ → CallResult → Option (List ℕ) → MasterState × Taken
telling s client number result None = replied s client number result
telling s client number result (Some name) = if is_cachable s client name then granting s client number result name else replied s client number result

-- each client that holds the name is asked for it by its next invalidation, unless it was asked already
abbrev pub asking : MasterState → List ℕ → MasterState
asking s name = record s { rights = asked_back name s.rights; sessions = issued_by (clients_to_ask name s.rights) s.sessions }

-- for one name after the other
abbrev pub asking_for : MasterState → List (List ℕ) → MasterState
asking_for s [] = s
asking_for s (name ∷ names) = asking_for (asking s name) names

-- ---- Starts

-- no Start is committed during recovery
abbrev pub start_step : MasterState → Start → MasterState × Taken
start_step s start =
    if may_start s start.client start.principal
    then (if s.recovering then (s, turned_away s start.client start.number faults.Recovering)
    else if is_full s then (s, turned_away s start.client start.number faults.Busy)
    else (queued s [] (tasks.Asked (record { client = start.client; number = start.number; work = works.Starts start.principal s.clock })), nothing))
    else (s, refusal s start.client start.number faults.NoSession)

-- ---- Beats

-- which ends the rights that they asked back, and it is parked
abbrev pub parked : MasterState → Beat → MasterState
parked s beat = record s {
  sessions = with_session s.sessions beat.client (beaten beat s.clock);
  rights = ended beat.client (acknowledgement beat) s.rights;
}

-- each right that ends is printed
abbrev pub acked : MasterState → Beat → Taken
acked s beat = record { lines = map lines.Acked (numbers_ending beat.client (acknowledgement beat) s.rights); outs = [] }

abbrev pub beat_by : MasterState → Beat → Option Fault → MasterState × Taken
beat_by s beat (Some fault) = (s, refusal s beat.client beat.number fault)
beat_by s beat None = (parked s beat, acked s beat)

abbrev pub beat_step : MasterState → Beat → MasterState × Taken
beat_step s beat =
    if beat.epoch == s.epoch then beat_by s beat (beat_fault (session_of s beat.client) beat) else (s, refusal s beat.client beat.number (faults.OldEpoch s.epoch))

-- ---- the tests of a new call

-- a read, and a ReadDir, tell what their node's name shows
abbrev pub viewed_name : List ℕ → CallResult → Option (List ℕ)
viewed_name name (results.Viewed view) = Some name
viewed_name name (results.Listed view) = Some name
viewed_name name _ = None

-- an Open that finds nothing tells that
abbrev pub absent_name : List ℕ → Fault → Option (List ℕ)
absent_name name faults.NotFound = Some name
absent_name name _ = None

abbrev pub told_by_open : List ℕ → Result Handle Fault → Option (List ℕ)
told_by_open name (Ok handle) = None
told_by_open name (Err fault) = absent_name name fault

abbrev pub admission_of_open : MasterState → ℕ → ℕ → Open → Option Create → Admission
admission_of_open s client number opening (Some create) =
    record { note = None; touched = Some (WithParent opening.name); told = None; answer = create_fault opening create.node }
admission_of_open s client number opening None = record {
  note = opened_note (name_space s) (plain_open (name_space s) (caller s client) number opening);
  touched = None;
  told = told_by_open opening.name (plain_open (name_space s) (caller s client) number opening);
  answer = Some (opened_answer (name_space s) (plain_open (name_space s) (caller s client) number opening));
}

-- a call that changes nothing, notes nothing, and tells of no name
abbrev pub answering : CallResult → Admission
answering answer = record { note = None; touched = None; told = None; answer = Some answer }

-- its sequencer is tested first
abbrev pub admission_under : MasterState → ℕ → ℕ → Open → Option Fault → Admission
admission_under s client number opening (Some fault) = answering (results.Refused fault)
admission_under s client number opening None = admission_of_open s client number opening opening.create

abbrev pub open_admission : MasterState → ℕ → ℕ → Open → Option (List ℕ) → Admission
open_admission s client number opening sequencer =
    if is_of_cell (name_space s) opening.name then admission_under s client number opening (sequencer_fault (name_space s) sequencer) else answering (results.Refused faults.OtherCell)

-- a client that ends its session waits for its turn, whatever sequencer it carries
abbrev pub leave_admission : Admission
leave_admission = record { note = None; touched = None; told = None; answer = None }

-- the sequencer that it asks about is tested after the one that it stands under
abbrev pub check_admission : MasterState → List ℕ → Option Fault → Admission
check_admission s bytes (Some fault) = answering (results.Refused fault)
check_admission s bytes None = answering (check_answer (name_space s) bytes)

-- what a call on a node touches: the names whose view it may change
abbrev pub touched_by : Handle → Call → Option TouchedNames
touched_by handle (calls.Set bytes content generation) = Some (Alone handle.name)
touched_by handle (calls.SetAcl bytes acls generation) = Some (Alone handle.name)
touched_by handle (calls.Delete bytes) = Some (WithParent handle.name)
touched_by handle (calls.Open opening) = None
touched_by handle (calls.Close bytes) = None
touched_by handle (calls.Read bytes) = None
touched_by handle (calls.Stat bytes) = None
touched_by handle (calls.List bytes) = None
touched_by handle (calls.Acquire bytes mode) = None
touched_by handle (calls.TryAcquire bytes mode) = None
touched_by handle (calls.Release bytes) = None
touched_by handle (calls.GetSequencer bytes) = None
touched_by handle (calls.SetSequencer bytes) = None
touched_by handle (calls.CheckSequencer bytes) = None
touched_by handle calls.Leave = None

-- a handle that is shown is open from then on, where nothing is noted of it yet
abbrev pub shown_note : MasterState → Handle → List ℕ → Option HandleNote
shown_note s handle bytes = if is_none (handle_state_of s (key_of handle)) then Some (open_note handle bytes) else None

-- it is noted also where the call is refused
abbrev pub handle_admission : MasterState → Call → Option (List ℕ) → Option Handle → Admission
handle_admission s call sequencer None = answering (results.Refused faults.BadHandle)
handle_admission s call sequencer (Some handle) = record {
  note = shown_note s handle (bytes_of call);
  touched = touched_by handle call;
  told = option_and_then (viewed_name handle.name) (answer_on (name_space s) handle call sequencer);
  answer = answer_on (name_space s) handle call sequencer;
}

-- with the bytes of the sequencer that the message carries, if it carries one
abbrev pub admission_of : MasterState → ℕ → ℕ → Call → Option (List ℕ) → Admission
admission_of s client number (calls.Open opening) sequencer = open_admission s client number opening sequencer
admission_of s client number (calls.CheckSequencer bytes) sequencer = check_admission s bytes (sequencer_fault (name_space s) sequencer)
admission_of s client number calls.Leave sequencer = leave_admission
admission_of s client number call sequencer = handle_admission s call sequencer (shown_handle s client (bytes_of call))

abbrev pub admission_for : MasterState → CallMessage → Admission
admission_for s message = admission_of s message.client message.number message.call message.sequencer

-- ---- calls

abbrev pub names_of : Option TouchedNames → List (List ℕ)
names_of None = []
names_of (Some (Alone name)) = name ∷ []
names_of (Some (WithParent name)) = with_parent name

-- what waits of a call: its sequencer is tested again when its turn comes
abbrev pub task_of : CallMessage → WaitingRequest
task_of message = record { client = message.client; number = message.number; work = works.Calls message.call message.sequencer }

abbrev pub with_call : MasterState → CallMessage → Option TouchedNames → MasterState
with_call s message touched = queued (recorded s message.client (record { number = message.number; reply = None })) (names_of touched) (tasks.Asked (task_of message))

-- who holds a name that it touches is asked for it
abbrev pub waits : MasterState → CallMessage → Option TouchedNames → MasterState × Taken
waits s message touched = (asking_for (with_call s message touched) (names_of touched), nothing)

-- a call that is answered at once, or waits where there is room
abbrev pub admit_step : MasterState → CallMessage → Option TouchedNames → Option (List ℕ) → Option CallResult → MasterState × Taken
admit_step s message touched told (Some result) = telling s message.client message.number result told
admit_step s message touched told None =
    if is_full s then replied s message.client message.number (results.Refused faults.Busy) else waits s message touched

abbrev pub new_call_by : MasterState → CallMessage → Admission → MasterState × Taken
new_call_by s message admission = admit_step (with_note s admission.note) message admission.touched admission.told admission.answer

-- during recovery every new call is refused, and that is its recorded result
abbrev pub new_call : MasterState → CallMessage → MasterState × Taken
new_call s message =
    if s.recovering then replied s message.client message.number (results.Refused faults.Recovering) else new_call_by s message (admission_for s message)

-- by the last call of the client: it comes again, an older one comes, one comes while it waits, or a new one comes
abbrev pub kept_step : MasterState → CallMessage → Result (Option (LastCall Reply)) Fault → MasterState × Taken
kept_step s message (Err fault) = (s, refusal s message.client message.number fault)
kept_step s message (Ok (Some kept)) = (s, repeated kept)
kept_step s message (Ok None) = new_call s message

-- a call that waits, and is older than this one
abbrev pub is_older : ℕ → Option (LastCall Reply) → Bool
is_older number None = false
is_older number (Some kept) = is_none kept.reply && nat_lt kept.number number

-- a client may end its session while its last call waits for a lock: that one has had its turn, so that no call of the client waits for one
abbrev pub leaves_beside : MasterState → CallMessage → Bool
leaves_beside s message =
    (is_leave message.call && is_older message.number (kept_of s message.client)) && (not s.recovering && not (has_call message.client s.gate.waiting))

-- where there is room its last call is the new one then, and the reply to the older one is given up
abbrev pub live_step : MasterState → CallMessage → MasterState × Taken
live_step s message =
    if is_full s || not (leaves_beside s message) then kept_step s message (kept_answer (kept_of s message.client) message.number) else waits s message None

-- of a session that has ended: the call by which its client ended it comes again, or there is none
abbrev pub ended_step : MasterState → CallMessage → Result (Option (LastCall Reply)) Fault → MasterState × Taken
ended_step s message (Ok (Some kept)) =
    if is_leave message.call && is_some kept.reply then (s, repeated kept) else (s, refusal s message.client message.number faults.NoSession)
ended_step s message _ = (s, refusal s message.client message.number faults.NoSession)

abbrev pub call_step : MasterState → CallMessage → MasterState × Taken
call_step s message =
    if message.epoch == s.epoch
    then (if is_live s message.client then live_step s message
    else ended_step s message (kept_answer (kept_of s message.client) message.number))
    else (s, refusal s message.client message.number (faults.OldEpoch s.epoch))

abbrev pub take_at : MasterState → Request → MasterState × Taken
take_at s (requests.Start start) = start_step s start
take_at s (requests.Beat beat) = beat_step s beat
take_at s (requests.Call message) = call_step s message

-- ---- moments

-- a moment past the end of moments
abbrev pub is_past_end : ℕ → Bool
is_past_end now = nat_le moment_limit now

unfoldable pub take_step : MasterState → ℕ → Request → Result (MasterState × Taken) Fault
take_step s now request = if is_past_end now || is_spent s then Err faults.Exhausted else Ok (take_at (noted s now) request)

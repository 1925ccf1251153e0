-- By which arm of its table a master takes a message. Each law of it is a match on these.
use Rattle.std.specs.Prelude.{◌≡◌, ◌≢◌, ◌⊎◌, ℕ, ◌<◌, true, false, List, [], Option, Some, None}
use Rattle.tags_cell.specs.declared.messages.requests.Start.{Start}
use Rattle.tags_cell.specs.declared.messages.beats.Beat.{Beat}
use Rattle.node_core.specs.declared.refusals.Fault.{Fault}
use Rattle.tags_cell.specs.declared.messages.requests.CallMessage.{CallMessage}
use Rattle.tags_cell.specs.declared.messages.requests.Request.{Request}
use Rattle.tags_cell.specs.declared.messages.outs.CallResult.{CallResult}
use Rattle.tags_cell.specs.declared.messages.outs.Reply.{Reply}
use Rattle.master_parts.specs.declared.handles.HandleNote.{HandleNote}
use Rattle.master_parts.specs.declared.pending.Taken.{Taken}
use Rattle.session_core.specs.declared.records.LastCall.{LastCall}
use Rattle.session_core.specs.Session.{beat_fault}
use Rattle.master_state.specs.State.{MasterState}
use Rattle.master_state.specs.Lookups.{session_of, kept_of, is_live, is_full, may_start, nothing, turned_away, refusal, repeated}
use Rattle.cell_core.specs.declared.asking.TouchedNames.{TouchedNames}
use Rattle.cell_core.specs.Step.{queued, parked, acked, replied, is_cachable, granting, waits, admission_for}
use Rattle.master_state.specs.CallsWaiting.{has_call}
use Rattle.master_state.specs.Updates.{with_note}
use Rattle.tags_cell.specs.Messages.{is_leave}
use Rattle.node_core.specs.declared.refusals.Fault.TheVariants as faults
use Rattle.tags_cell.specs.declared.messages.requests.Request.TheVariants as requests
use Rattle.tags_cell.specs.declared.messages.outs.CallResult.TheVariants as results
use Rattle.master_parts.specs.declared.pending.Task.TheVariants as tasks
use Rattle.master_parts.specs.declared.pending.Work.TheVariants as works

-- ---- a message

-- the client's last call, if it made one, has its reply and a smaller number
abbrev pub IsBehind : Option (LastCall Reply) → ℕ → Type 0
IsBehind None number = Unit {0}
IsBehind (Some kept) number = (reply : Reply) × (kept.reply ≡ Some reply) × (kept.number < number)

-- a call of the master's epoch, by a live session
pub record IsHeard (s : MasterState) (request : Request) (message : CallMessage) : Type 0 where
  pub is_call : request ≡ requests.Call message
  pub epoch : message.epoch ≡ s.epoch
  pub live : is_live s message.client ≡ true

-- one that is neither repeated nor too early
pub record IsNew (s : MasterState) (request : Request) (message : CallMessage) : Type 0 where
  pub heard : IsHeard s request message
  pub behind : IsBehind (kept_of s message.client) message.number

-- one that ends its session, while its last call waits for a lock
pub record IsBeside (s : MasterState) (message : CallMessage) : Type 0 where
  pub leave : is_leave message.call ≡ true
  pub kept : LastCall Reply
  pub found : kept_of s message.client ≡ Some kept
  pub more : kept.number < message.number
  pub none : kept.reply ≡ None
  -- that one has had its turn
  pub alone : has_call message.client s.gate.waiting ≡ false
  pub serving : s.recovering ≡ false
  pub room : is_full s ≡ false

-- its answer may not be kept in a cache: it tells of no name, or of one that isn't cachable
abbrev pub IsUnkept : MasterState → ℕ → Option (List ℕ) → Type 0
IsUnkept s client None = Unit {0}
IsUnkept s client (Some name) = is_cachable s client name ≡ false

-- what is noted of its handle first, and what it is answered at once: by its tests, or as Busy where it would wait and there is no room
pub record IsAnswered (s : MasterState) (message : CallMessage) (note : Option HandleNote) (answer : CallResult) : Type 0 where
  pub is_noted : note ≡ (admission_for s message).note
  pub is_answer : (((admission_for s message).answer ≡ Some answer) × IsUnkept (with_note s note) message.client (admission_for s message).told)
      ⊎ (((admission_for s message).answer ≡ None) × (is_full (with_note s note) ≡ true) × (answer ≡ results.Refused faults.Busy))

-- what is noted of its handle first, and what it is answered at once, which tells what a name shows, and may be kept in the client's cache
pub record IsGranted (s : MasterState) (message : CallMessage) (note : Option HandleNote) (answer : CallResult) (name : List ℕ) : Type 0 where
  pub is_noted : note ≡ (admission_for s message).note
  pub is_answer : (admission_for s message).answer ≡ Some answer
  pub is_told : (admission_for s message).told ≡ Some name
  pub cachable : is_cachable (with_note s note) message.client name ≡ true

-- it passes its tests, and there is room; what it touches
pub record IsAdmitted (s : MasterState) (message : CallMessage) (note : Option HandleNote) (touched : Option TouchedNames) : Type 0 where
  pub is_touched : touched ≡ (admission_for s message).touched
  pub is_noted : note ≡ (admission_for s message).note
  pub passes : (admission_for s message).answer ≡ None
  pub room : is_full (with_note s note) ≡ false

pub data TakeCase (s : MasterState) (request : Request) : Type 0 where
  -- A START
  StartRefused : (start : Start) → request ≡ requests.Start start → may_start s start.client start.principal ≡ false → TakeCase s request
  StartRecovering : (start : Start) → request ≡ requests.Start start → may_start s start.client start.principal ≡ true → s.recovering ≡ true → TakeCase s request
  StartFull : (start : Start) → request ≡ requests.Start start → may_start s start.client start.principal ≡ true → s.recovering ≡ false → is_full s ≡ true → TakeCase s request
  StartQueued : (start : Start) → request ≡ requests.Start start → may_start s start.client start.principal ≡ true → s.recovering ≡ false → is_full s ≡ false → TakeCase s request
  -- A BEAT
  OldBeat : (beat : Beat) → request ≡ requests.Beat beat → beat.epoch ≢ s.epoch → TakeCase s request
  BeatRefused : (beat : Beat) (fault : Fault) → request ≡ requests.Beat beat → beat.epoch ≡ s.epoch → beat_fault (session_of s beat.client) beat ≡ Some fault → TakeCase s request
  BeatParked : (beat : Beat) → request ≡ requests.Beat beat → beat.epoch ≡ s.epoch → beat_fault (session_of s beat.client) beat ≡ None → TakeCase s request
  -- A CALL
  OldEpoch : (message : CallMessage) → request ≡ requests.Call message → message.epoch ≢ s.epoch → TakeCase s request
  NoSession : (message : CallMessage) → request ≡ requests.Call message → message.epoch ≡ s.epoch → is_live s message.client ≡ false → TakeCase s request
  -- the session has ended, by this call
  LeftBefore : (message : CallMessage) (kept : LastCall Reply) → request ≡ requests.Call message → message.epoch ≡ s.epoch → is_live s message.client ≡ false → kept_of s message.client ≡ Some kept → message.number ≡ kept.number → TakeCase s request
  Repeated : (message : CallMessage) (kept : LastCall Reply) → IsHeard s request message → kept_of s message.client ≡ Some kept → message.number ≡ kept.number → TakeCase s request
  OlderCall : (message : CallMessage) (kept : LastCall Reply) → IsHeard s request message → kept_of s message.client ≡ Some kept → message.number < kept.number → TakeCase s request
  Outstanding : (message : CallMessage) (kept : LastCall Reply) → IsHeard s request message → kept_of s message.client ≡ Some kept → kept.number < message.number → kept.reply ≡ None → TakeCase s request
  LeavesBeside : (message : CallMessage) → IsHeard s request message → IsBeside s message → TakeCase s request
  Recovering : (message : CallMessage) → IsNew s request message → s.recovering ≡ true → TakeCase s request
  Answered : (message : CallMessage) (note : Option HandleNote) (answer : CallResult) → IsNew s request message → s.recovering ≡ false → IsAnswered s message note answer → TakeCase s request
  Granted : (message : CallMessage) (note : Option HandleNote) (answer : CallResult) (name : List ℕ) → IsNew s request message → s.recovering ≡ false → IsGranted s message note answer name → TakeCase s request
  Waits : (message : CallMessage) (note : Option HandleNote) (touched : Option TouchedNames) → IsNew s request message → s.recovering ≡ false → IsAdmitted s message note touched → TakeCase s request

-- what the master is then, prints and sends
abbrev pub taken_by : (s : MasterState) (request : Request) → TakeCase s request → MasterState × Taken
taken_by s request (StartRefused start is may) = (s, refusal s start.client start.number faults.NoSession)
taken_by s request (StartRecovering start is may recovering) = (s, turned_away s start.client start.number faults.Recovering)
taken_by s request (StartFull start is may serving full) = (s, turned_away s start.client start.number faults.Busy)
taken_by s request (StartQueued start is may serving room) =
    (queued s [] (tasks.Asked (record { client = start.client; number = start.number; work = works.Starts start.principal s.clock })), nothing)
taken_by s request (OldBeat beat is other) = (s, refusal s beat.client beat.number (faults.OldEpoch s.epoch))
taken_by s request (BeatRefused beat fault is same refused) = (s, refusal s beat.client beat.number fault)
taken_by s request (BeatParked beat is same taken) = (parked s beat, acked s beat)
taken_by s request (OldEpoch message is other) = (s, refusal s message.client message.number (faults.OldEpoch s.epoch))
taken_by s request (NoSession message is same ended) = (s, refusal s message.client message.number faults.NoSession)
taken_by s request (LeftBefore message kept is same ended found number) = (s, repeated kept)
taken_by s request (Repeated message kept heard is same) = (s, repeated kept)
taken_by s request (OlderCall message kept heard is less) = (s, refusal s message.client message.number faults.Repeat)
taken_by s request (Outstanding message kept heard is more none) = (s, refusal s message.client message.number faults.CallOutstanding)
taken_by s request (LeavesBeside message heard beside) = waits s message None
taken_by s request (Recovering message new recovering) = replied s message.client message.number (results.Refused faults.Recovering)
taken_by s request (Answered message note answer new serving answered) = replied (with_note s note) message.client message.number answer
taken_by s request (Granted message note answer name new serving granted) = granting (with_note s note) message.client message.number answer name
taken_by s request (Waits message note touched new serving admitted) = waits (with_note s note) message touched

-- A handle that was closed.
use Rattle.std.specs.Prelude.{◌≡◌, ℕ, Bool, true, false, not, ◌&&◌, ◌==◌, List, fold, Contains, Option, Some, None, Result, Ok, Err}
use Rattle.std.specs.List.{list_any}
use Rattle.node_core.specs.declared.refusals.Fault.{Fault}
use Rattle.node_core.specs.declared.refusals.Fault.TheVariants as faults
use Rattle.rows_cell.specs.declared.tables.Rows.{Rows}
use Rattle.tags_cell.specs.Handles.{read_handle}
use Rattle.tags_cell.specs.declared.messages.calls.Call.{Call}
use Rattle.tags_cell.specs.declared.messages.calls.Call.TheVariants as calls
use Rattle.tags_cell.specs.declared.handles.Handle.{Handle}
use Rattle.tags_cell.specs.declared.messages.outs.CallResult.TheVariants as results
use Rattle.tags_cell.specs.declared.messages.outs.Out.TheVariants as outs
use Rattle.tags_cell.specs.declared.messages.requests.CallMessage.{CallMessage}
use Rattle.tags_cell.specs.declared.messages.requests.Request.{Request}
use Rattle.tags_cell.specs.declared.messages.requests.Request.TheVariants as requests
use Rattle.master_parts.specs.declared.handles.HandleKey.{HandleKey}
use Rattle.master_parts.specs.declared.handles.HandleState.{HandleState}
use Rattle.master_parts.specs.declared.handles.HandleState.TheVariants as states
use Rattle.master_parts.specs.declared.pending.WaitingRequest.{WaitingRequest}
use Rattle.master_parts.specs.declared.pending.Taken.{Taken}
use Rattle.master_parts.specs.declared.pending.Task.{Task}
use Rattle.master_parts.specs.declared.pending.Task.TheVariants as tasks
use Rattle.master_parts.specs.declared.pending.Work.{Work}
use Rattle.master_parts.specs.declared.pending.Work.TheVariants as works
use Rattle.master_parts.specs.Keys.{is_key}
use Rattle.master_state.specs.State.{MasterState}
use Rattle.master_state.specs.Lookups.{handle_state_of, noted, reply_of}
use Rattle.master_parts.specs.Keys.{key_of}
use Rattle.master_parts.specs.Calls.{bytes_of}
use Rattle.cell_core.specs.Step.{replied, take_step}
use Rattle.over_core.specs.declared.swept.Swept.{Swept}
use Rattle.over_core.specs.Kept.{IsKept}
use Rattle.over_core.specs.Sweep.{sweep_step, beats_step}
use Rattle.master_laws.specs.Steps.{TakesCall, IsBeingApplied}

-- in this epoch a handle is closed that is known so: it is noted as closed; or the epoch gave it, and it isn't noted as open
abbrev pub is_closed : ℕ → Handle → Option HandleState → Bool
is_closed epoch handle (Some (states.Open noted)) = handle.epoch == epoch && not (handle.epoch == noted.handle.epoch)
is_closed epoch handle (Some states.Closed) = true
is_closed epoch handle None = handle.epoch == epoch

-- the handle was closed in the master's epoch
abbrev pub IsClosed : MasterState → Handle → Type 0
IsClosed s handle = is_closed s.epoch handle (handle_state_of s (key_of handle)) ≡ true

-- when a Close has its turn its handle is closed, and it is answered so
abbrev pub CloseCloses : Type 0
CloseCloses =
    (s new : MasterState) (now number : ℕ) (told : Swept) (asked : WaitingRequest) (bytes : List ℕ) (sequencer : Option (List ℕ)) (handle : Handle) → sweep_step s now ≡ Ok (new, told)
    → IsBeingApplied (noted s now) number asked (calls.Close bytes) sequencer
    → read_handle s.secret bytes ≡ Some handle
    → IsClosed new handle × Contains told.outs (outs.Reply (reply_of s asked.client asked.number results.Closed))

-- ---- calls by it

-- the bytes of a handle that a call shows; an Open, a CheckSequencer and a Leave show none
abbrev pub shown_bytes : Call → Option (List ℕ)
shown_bytes (calls.Open opening) = None
shown_bytes (calls.CheckSequencer bytes) = None
shown_bytes calls.Leave = None
shown_bytes call = Some (bytes_of call)

-- a call shows the bytes of this handle
pub record IsShown (secret : List ℕ) (call : Call) (handle : Handle) : Type 0 where
  pub bytes : List ℕ
  pub shown : shown_bytes call ≡ Some bytes
  pub reads : read_handle secret bytes ≡ Some handle

-- a new call that shows a closed handle is refused as BadHandle, and changes nothing but what is kept of the call
abbrev pub ClosedHandleIsRefused : Type 0
ClosedHandleIsRefused =
    (s new : MasterState) (now : ℕ) (message : CallMessage) (handle : Handle) (taken : Taken) → TakesCall s now message new taken → IsShown s.secret message.call handle → IsClosed s handle
    → (new, taken) ≡ replied (noted s now) message.client message.number (results.Refused faults.BadHandle)

-- ---- no way back

-- the call of a client under a number is the Open that gives the handle with this key
abbrev pub opens_as : HandleKey → ℕ → ℕ → Call → Bool
opens_as key client number (calls.Open opening) = is_key key (record { client = client; number = number })
opens_as key client number call = false

-- a message is that Open
abbrev pub asks_to_open : HandleKey → Request → Bool
asks_to_open key (requests.Call message) = opens_as key message.client message.number message.call
asks_to_open key request = false

abbrev pub work_opens : HandleKey → ℕ → ℕ → Work → Bool
work_opens key client number (works.Calls call sequencer) = opens_as key client number call
work_opens key client number work = false

abbrev pub task_opens : HandleKey → Task → Bool
task_opens key (tasks.Asked asked) = work_opens key asked.client asked.number asked.work
task_opens key task = false

-- that Open waits for its turn
abbrev pub waits_to_open : HandleKey → MasterState → Bool
waits_to_open key s = list_any (λ w. task_opens key w.change.body) s.gate.waiting

-- a handle was closed, and the Open that gives it doesn't wait to be done once more
pub record IsClosedForGood (s : MasterState) (handle : Handle) : Type 0 where
  pub closed : IsClosed s handle
  pub unasked : waits_to_open (key_of handle) s ≡ false

-- a handle that was closed stays closed by each message but the Open that gives it
abbrev pub ClosedHandleStaysClosed : Type 0
ClosedHandleStaysClosed =
    (s new : MasterState) (now : ℕ) (request : Request) (handle : Handle) (taken : Taken) → take_step s now request ≡ Ok (new, taken) → asks_to_open (key_of handle) request ≡ false → IsClosed s handle
    → IsClosed new handle

-- one that was closed for good stays so by each message but that Open ..
abbrev pub ClosedForGoodByMessages : Type 0
ClosedForGoodByMessages =
    (s new : MasterState) (now : ℕ) (request : Request) (handle : Handle) (taken : Taken) → take_step s now request ≡ Ok (new, taken) → asks_to_open (key_of handle) request ≡ false → IsClosedForGood s handle
    → IsClosedForGood new handle

-- .. and by each sweep
abbrev pub ClosedForGoodBySweeps : Type 0
ClosedForGoodBySweeps = (s new : MasterState) (now : ℕ) (handle : Handle) (told : Swept) → sweep_step s now ≡ Ok (new, told) → IsClosedForGood s handle → IsClosedForGood new handle

-- ---- over many steps

-- at a moment a master takes a message, sweeps, or answers a Beat and commits nothing
pub data MasterStep : Type 0 where
  Takes : (now : ℕ) (request : Request) → MasterStep
  Sweeps : (now : ℕ) → MasterStep
  Beats : (now : ℕ) → MasterStep

-- one that is refused leaves the master as it was
abbrev pub left_by : {A : Type 0} → MasterState → Result (MasterState × A) Fault → MasterState
left_by s (Ok done) = done.0
left_by s (Err fault) = s

abbrev pub master_behind : MasterState → MasterStep → MasterState
master_behind s (Takes now request) = left_by s (take_step s now request)
master_behind s (Sweeps now) = left_by s (sweep_step s now)
master_behind s (Beats now) = left_by s (beats_step s now)

abbrev pub step_opens : HandleKey → MasterStep → Bool
step_opens key (Takes now request) = asks_to_open key request
step_opens key (Sweeps now) = false
step_opens key (Beats now) = false

-- a handle that was closed for good is closed for good after every list of steps, of which none is the Open that gave it
abbrev pub ClosedForGoodForever : Type 0
ClosedForGoodForever =
    (s : MasterState) (steps : List MasterStep) (handle : Handle) → IsClosedForGood s handle → list_any (step_opens (key_of handle)) steps ≡ false → IsClosedForGood (fold master_behind s steps) handle

-- ---- where it begins

-- when a Close has its turn in a master that is kept beside its rows, as each master is, its handle is closed for good
abbrev pub CloseClosesForGood : Type 0
CloseClosesForGood =
    (cell : List ℕ) (rows : Rows) (s new : MasterState) (now number : ℕ) (told : Swept) (asked : WaitingRequest) (bytes : List ℕ) (sequencer : Option (List ℕ)) (handle : Handle) → IsKept cell rows s
    → sweep_step s now ≡ Ok (new, told)
    → IsBeingApplied (noted s now) number asked (calls.Close bytes) sequencer
    → read_handle s.secret bytes ≡ Some handle
    → IsClosedForGood new handle

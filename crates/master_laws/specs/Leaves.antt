-- A client ends its session, also while it waits for a lock.
use Rattle.std.specs.Prelude.{◌≡◌, ℕ, false, List, Contains, Option, None, Ok}
use Rattle.rows_cell.specs.declared.tables.Rows.{Rows}
use Rattle.tags_cell.specs.declared.messages.calls.Call.TheVariants as calls
use Rattle.tags_cell.specs.declared.messages.outs.CallResult.TheVariants as results
use Rattle.tags_cell.specs.declared.messages.outs.Out.TheVariants as outs
use Rattle.tags_cell.specs.declared.messages.requests.CallMessage.{CallMessage}
use Rattle.tags_cell.specs.declared.messages.requests.Request.TheVariants as requests
use Rattle.lock_core.specs.Turns.{concerns}
use Rattle.lock_core.specs.Locks.{lock_at}
use Rattle.master_parts.specs.declared.pending.WaitingRequest.{WaitingRequest}
use Rattle.master_parts.specs.declared.pending.Taken.{Taken}
use Rattle.master_state.specs.State.{MasterState}
use Rattle.master_state.specs.Lookups.{is_live, noted, nothing, reply_of}
use Rattle.cell_core.specs.Cases.{IsHeard, IsBeside}
use Rattle.cell_core.specs.Step.{take_step, with_call}
use Rattle.over_core.specs.declared.swept.Swept.{Swept}
use Rattle.over_core.specs.Kept.{IsKept}
use Rattle.over_core.specs.Sweep.{sweep_step}
use Rattle.master_laws.specs.Steps.{IsBeingApplied}

-- a Leave that comes while its client's last call waits for a lock waits for its turn, touches no name, and is the last call then; nothing is printed or sent
abbrev pub LeaveWaitsBeside : Type 0
LeaveWaitsBeside =
    (s new : MasterState) (now : ℕ) (message : CallMessage) (taken : Taken) → take_step s now (requests.Call message) ≡ Ok (new, taken) → IsHeard (noted s now) (requests.Call message) message → IsBeside (noted s now) message
    → (new ≡ with_call (noted s now) message None) × (taken ≡ nothing)

-- a client's session is over, and it neither holds a lock nor waits for one
pub record HasLeft (s : MasterState) (client : ℕ) : Type 0 where
  pub over : is_live s client ≡ false
  pub free : (instance : ℕ) → concerns client (lock_at s.locks instance) ≡ false

-- when a Leave has its turn in a master that is kept beside its rows, as each master is, its client has left, and it is answered so
abbrev pub LeaveEndsSession : Type 0
LeaveEndsSession =
    (cell : List ℕ) (rows : Rows) (s new : MasterState) (now number : ℕ) (told : Swept) (asked : WaitingRequest) (sequencer : Option (List ℕ)) → IsKept cell rows s → sweep_step s now ≡ Ok (new, told)
    → IsBeingApplied (noted s now) number asked calls.Leave sequencer
    → HasLeft new asked.client × Contains told.outs (outs.Reply (reply_of s asked.client asked.number results.Done))

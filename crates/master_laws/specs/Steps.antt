-- What a master does with a call: what it answers at once, and whose turn it is in a sweep.
use Rattle.std.specs.Prelude.{◌≡◌, ℕ, true, false, List, Contains, Option, Some, Ok}
use Rattle.tags_cell.specs.declared.messages.calls.Call.{Call}
use Rattle.tags_cell.specs.declared.messages.requests.CallMessage.{CallMessage}
use Rattle.tags_cell.specs.declared.messages.requests.Request.TheVariants as requests
use Rattle.tags_cell.specs.declared.messages.outs.CallResult.{CallResult}
use Rattle.tags_cell.specs.declared.messages.outs.Out.TheVariants as outs
use Rattle.tags_cell.specs.declared.messages.outs.Reply.{Reply}
use Rattle.master_parts.specs.declared.pending.WaitingRequest.{WaitingRequest}
use Rattle.master_parts.specs.declared.pending.Taken.{Taken}
use Rattle.master_parts.specs.declared.pending.Task.TheVariants as tasks
use Rattle.master_parts.specs.declared.pending.Work.TheVariants as works
use Rattle.master_state.specs.State.{MasterState, task_at}
use Rattle.master_state.specs.Lookups.{is_live, noted}
use Rattle.cell_core.specs.Step.{take_step}
use Rattle.cell_core.specs.Cases.{IsNew}
use Rattle.over_core.specs.declared.actions.Action.TheVariants as actions
use Rattle.over_core.specs.Plans.{first_action}

-- at a moment a master takes a call that is new, of a live session of its epoch, and isn't in recovery
pub record TakesCall (s : MasterState) (now : ℕ) (message : CallMessage) (new : MasterState) (taken : Taken) : Type 0 where
  pub step : take_step s now (requests.Call message) ≡ Ok (new, taken)
  pub is_new : IsNew (noted s now) (requests.Call message) message
  pub serving : s.recovering ≡ false

-- what is sent has a reply to the call, with this result
pub record IsAnsweredBy (taken : Taken) (message : CallMessage) (result : CallResult) : Type 0 where
  pub reply : Reply
  pub is_sent : Contains taken.outs (outs.Reply reply)
  pub client : reply.client ≡ message.client
  pub number : reply.number ≡ message.number
  pub is_result : reply.result ≡ result

-- the change of this number has its turn, and is a call of a live session
pub record IsBeingApplied (s : MasterState) (number : ℕ) (asked : WaitingRequest) (call : Call) (sequencer : Option (List ℕ)) : Type 0 where
  pub is_first : first_action s ≡ actions.Apply number
  pub waits : task_at number s.gate.waiting ≡ Some (tasks.Asked asked)
  pub work : asked.work ≡ works.Calls call sequencer
  pub live : is_live s asked.client ≡ true

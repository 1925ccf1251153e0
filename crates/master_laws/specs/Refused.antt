-- What a refused call changes.
use Rattle.std.specs.Prelude.{◌≡◌, ◌≢◌, ◌⊎◌, ℕ, List, [], ◌∷◌, Contains, Option, Some, None, Ok, if◌then◌else◌, false}
use Rattle.std.specs.Option.{option_map, option_and_then}
use Rattle.node_core.specs.declared.refusals.Fault.{Fault}
use Rattle.node_core.specs.declared.refusals.Fault.TheVariants as faults
use Rattle.gate_core.specs.Gate.{without}
use Rattle.tags_cell.specs.declared.messages.calls.Call.{Call}
use Rattle.tags_cell.specs.declared.messages.calls.Call.TheVariants as calls
use Rattle.tags_cell.specs.declared.messages.calls.Open.{Open}
use Rattle.tags_cell.specs.declared.messages.outs.CallResult.TheVariants as results
use Rattle.tags_cell.specs.declared.messages.outs.Out.TheVariants as outs
use Rattle.tags_cell.specs.declared.messages.outs.Refused.{Refused}
use Rattle.tags_cell.specs.declared.messages.outs.Reply.{Reply}
use Rattle.tags_cell.specs.declared.messages.requests.CallMessage.{CallMessage}
use Rattle.tags_cell.specs.declared.messages.requests.Request.{Request}
use Rattle.tags_cell.specs.declared.messages.requests.Request.TheVariants as requests
use Rattle.session_core.specs.declared.records.Session.{Session}
use Rattle.master_parts.specs.declared.handles.HandleNote.{HandleNote}
use Rattle.master_parts.specs.declared.pending.WaitingRequest.{WaitingRequest}
use Rattle.master_parts.specs.declared.pending.Taken.{Taken}
use Rattle.cell_core.specs.Cases.{IsNew}
use Rattle.master_state.specs.NameSpace.{name_space, caller}
use Rattle.master_state.specs.State.{MasterState}
use Rattle.master_state.specs.Lookups.{session_of, kept_of, sends, reply_of, shown_handle, noted}
use Rattle.master_parts.specs.Answered.{answered_by}
use Rattle.cell_core.specs.Step.{recorded, with_right, shown_note, take_step}
use Rattle.master_state.specs.Updates.{with_note}
use Rattle.over_core.specs.declared.swept.Swept.{Swept}
use Rattle.cell_core.specs.Effect.{effect}
use Rattle.over_core.specs.Sweep.{sweep_edits, sweep_step}
use Rattle.master_laws.specs.Steps.{IsBeingApplied}
use Rattle.master_laws.specs.Closed.{shown_bytes}
use Rattle.tags_cell.specs.Messages.{is_leave}

-- ---- by a message

-- a message that is turned away leaves the master as it was, but for the moment
abbrev pub TurnedAwayChangesNothing : Type 0
TurnedAwayChangesNothing =
    (s new : MasterState) (now : ℕ) (request : Request) (taken : Taken) (refused : Refused) → take_step s now request ≡ Ok (new, taken) → Contains taken.outs (outs.Refused refused)
    → new ≡ noted s now

-- the handle that a call shows, where the master knew nothing of it: it is open from then on. In a recovery none is looked at
abbrev pub first_shown : MasterState → CallMessage → Option HandleNote
first_shown s message =
    if s.recovering then None
    else option_and_then (λ bytes. option_and_then (λ handle. shown_note s handle bytes) (shown_handle s message.client bytes)) (shown_bytes message.call)

-- the master with what is kept of a refused call: the handle that was shown first by it, and its reply
abbrev pub with_refusal : MasterState → CallMessage → Reply → MasterState
with_refusal s message reply = recorded (with_note s (first_shown s message)) message.client (answered_by reply)

-- at a moment a master takes a new call, and refuses it by this reply
pub record RefusesCall (s : MasterState) (now : ℕ) (message : CallMessage) (new : MasterState) (taken : Taken) (reply : Reply) (fault : Fault) : Type 0 where
  pub step : take_step s now (requests.Call message) ≡ Ok (new, taken)
  pub is_new : IsNew (noted s now) (requests.Call message) message
  pub is_sent : Contains taken.outs (outs.Reply reply)
  pub refuses : reply.result ≡ results.Refused fault

-- a call that is refused, and by which no right is granted, changes nothing but what is kept of it, and prints nothing
abbrev pub RefusedCallChangesNothing : Type 0
RefusedCallChangesNothing =
    (s new : MasterState) (now : ℕ) (message : CallMessage) (taken : Taken) (reply : Reply) (fault : Fault) → RefusesCall s now message new taken reply fault → new.rights ≡ s.rights
    → (new ≡ with_refusal (noted s now) message reply) × (taken ≡ sends reply)

-- an Open that finds nothing is refused, and grants the right to keep in a cache that there is no such node
pub record GrantsAbsence (s : MasterState) (message : CallMessage) (new : MasterState) (reply : Reply) (fault : Fault) : Type 0 where
  pub opening : Open
  pub is_open : message.call ≡ calls.Open opening
  pub not_found : fault ≡ faults.NotFound
  pub granted : new ≡ with_refusal (with_right s message.client opening.name) message reply

-- no other refused call grants a right
abbrev pub RefusalGrantsAbsenceAlone : Type 0
RefusalGrantsAbsenceAlone =
    (s new : MasterState) (now : ℕ) (message : CallMessage) (taken : Taken) (reply : Reply) (fault : Fault) → RefusesCall s now message new taken reply fault
    → (new ≡ with_refusal (noted s now) message reply) ⊎ GrantsAbsence (noted s now) message new reply fault

-- ---- when its turn comes

-- a session but for its events, and the last call of its client
abbrev pub life_of : Session Reply → Session Reply
life_of session = record session { events = None; kept = None }

-- nothing is committed or printed, and the reply is sent. The change of this number has left the gate; map, locks, rights, handles and all else but the sessions stay. The reply
-- is kept of its client's last call; each other client's last call, and the life of each session, stay
pub record IsRefusedAlone (s : MasterState) (now number : ℕ) (new : MasterState) (told : Swept) (reply : Reply) : Type 0 where
  pub commits_nothing : sweep_edits s now ≡ []
  pub prints_nothing : told.lines ≡ []
  pub is_sent : told.outs ≡ outs.Reply reply ∷ []
  pub stays : new ≡ record (noted s now) { sessions = new.sessions; gate = record s.gate { waiting = without number s.gate.waiting } }
  pub is_kept : kept_of new reply.client ≡ Some (answered_by reply)
  pub others_kept : (client : ℕ) → client ≢ reply.client → kept_of new client ≡ kept_of s client
  pub lives : (client : ℕ) → option_map life_of (session_of new client) ≡ option_map life_of (session_of s client)
  pub lease : new.sessions.lease ≡ s.sessions.lease

-- a call that is refused when its turn comes, which one that ends its session never is, changes nothing but that its reply is kept, and it has left the gate; who holds a lock that it asked for in vain may be told of that by an event
abbrev pub RefusedApplicationChangesNothing : Type 0
RefusedApplicationChangesNothing =
    (s new : MasterState) (now number : ℕ) (told : Swept) (asked : WaitingRequest) (call : Call) (sequencer : Option (List ℕ)) (fault : Fault) → sweep_step s now ≡ Ok (new, told) → IsBeingApplied (noted s now) number asked call sequencer → is_leave call ≡ false
    → (effect (name_space (noted s now)) (caller (noted s now) asked.client) (noted s now).clock asked.number call sequencer).answer ≡ Some (results.Refused fault)
    → IsRefusedAlone s now number new told (reply_of s asked.client asked.number (results.Refused fault))

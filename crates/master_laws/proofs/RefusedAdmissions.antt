-- What is noted by a call that gives no handle, and of which name it tells where it is refused.
use Rattle.std.proofs.Common.{◌≡◌, ℕ, List, true, false, cond, Option, Some, None, Result, Ok, Err, refl, sym, ap, ◌∙◌}
use Rattle.std.specs.Option.{option_and_then}
use Rattle.node_core.specs.declared.refusals.Fault.{Fault}
use Rattle.node_core.specs.declared.refusals.Fault.TheVariants as faults
use Rattle.tags_cell.specs.declared.messages.calls.Call.{Call}
use Rattle.tags_cell.specs.declared.messages.calls.Call.TheVariants as calls
use Rattle.tags_cell.specs.declared.messages.calls.Create.{Create}
use Rattle.tags_cell.specs.declared.messages.calls.Open.{Open}
use Rattle.tags_cell.specs.declared.handles.Handle.{Handle}
use Rattle.tags_cell.specs.declared.messages.outs.CallResult.{CallResult}
use Rattle.tags_cell.specs.declared.messages.outs.CallResult.TheVariants as results
use Rattle.tags_cell.specs.declared.messages.outs.NewHandle.{NewHandle}
use Rattle.tags_cell.specs.declared.messages.requests.CallMessage.{CallMessage}
use Rattle.master_parts.specs.declared.handles.HandleNote.{HandleNote}
use Rattle.master_state.specs.NameSpace.{name_space, caller}
use Rattle.master_state.specs.State.{MasterState}
use Rattle.master_state.specs.Lookups.{plain_open, opened_note, opened_answer, shown_handle, answer_on, is_of_cell, sequencer_fault}
use Rattle.master_parts.specs.Calls.{bytes_of}
use Rattle.cell_core.specs.Step.{shown_note, viewed_name, absent_name, told_by_open, answering, admission_of_open, admission_under, open_admission, check_admission, handle_admission, admission_of, admission_for}
use Rattle.master_laws.specs.Closed.{shown_bytes}
use Rattle.master_laws.specs.Refused.{first_shown}

-- no handle is given
abbrev pub GivesNone : Option CallResult → Type 0
GivesNone answer = (handle : NewHandle) → answer ≡ Some (results.Opened handle) → ⊥

-- the handle that a call shows, where nothing was known of it
abbrev pub shown_first : MasterState → ℕ → Call → Option HandleNote
shown_first s client call = option_and_then (λ bytes. option_and_then (λ handle. shown_note s handle bytes) (shown_handle s client bytes)) (shown_bytes call)

-- ---- what is noted

module _ (s : MasterState) (client number : ℕ) where
  of_opened : (opening : Open) (r : Result Handle Fault) → GivesNone (Some (opened_answer (name_space s) r)) → opened_note (name_space s) r ≡ None
  of_opened opening (Ok handle) h = absurd (h _ refl)
  of_opened opening (Err fault) h = refl

  of_create : (opening : Open) (o : Option Create) → GivesNone (admission_of_open s client number opening o).answer → (admission_of_open s client number opening o).note ≡ None
  of_create opening None h = of_opened opening (plain_open (name_space s) (caller s client) number opening) h
  of_create opening (Some create) h = refl

  of_sequencer : (opening : Open) (o : Option Fault) → GivesNone (admission_under s client number opening o).answer → (admission_under s client number opening o).note ≡ None
  of_sequencer opening None h = of_create opening opening.create h
  of_sequencer opening (Some fault) h = refl

  of_open : (opening : Open) (sequencer : Option (List ℕ)) → GivesNone (open_admission s client number opening sequencer).answer → (open_admission s client number opening sequencer).note ≡ None
  of_open opening sequencer h =
      let fault = sequencer_fault (name_space s) sequencer in
      (elim (is_of_cell (name_space s) opening.name) as (λ b. GivesNone (cond b (admission_under s client number opening fault) (answering (results.Refused faults.OtherCell))).answer → (cond b (admission_under s client number opening fault) (answering (results.Refused faults.OtherCell))).note ≡ None) [
        | true ↦ (λ k. of_sequencer opening fault k)
        | false ↦ (λ k. refl)
      ]) h

  of_check : (bytes : List ℕ) (o : Option Fault) → (check_admission s bytes o).note ≡ None
  of_check bytes None = refl
  of_check bytes (Some fault) = refl

  of_handle : (call : Call) (sequencer : Option (List ℕ)) (bytes : List ℕ) (o : Option Handle) → bytes_of call ≡ bytes → (handle_admission s call sequencer o).note ≡ option_and_then (λ handle. shown_note s handle bytes) o
  of_handle call sequencer bytes None h = refl
  of_handle call sequencer bytes (Some handle) h = ap (shown_note s handle) h

  of_call : (call : Call) (sequencer : Option (List ℕ)) → GivesNone (admission_of s client number call sequencer).answer → (admission_of s client number call sequencer).note ≡ shown_first s client call
  of_call (calls.Open opening) sequencer h = of_open opening sequencer h
  of_call (calls.CheckSequencer bytes) sequencer h = of_check bytes (sequencer_fault (name_space s) sequencer)
  of_call calls.Leave sequencer h = refl
  of_call call sequencer h = of_handle call sequencer (bytes_of call) (shown_handle s client (bytes_of call)) refl

pub notes_shown : (s : MasterState) (message : CallMessage) → s.recovering ≡ false → GivesNone (admission_for s message).answer → (admission_for s message).note ≡ first_shown s message
notes_shown s message serving h = of_call s message.client message.number message.call message.sequencer h ∙ sym (ap (λ b. cond b None (shown_first s message.client message.call)) serving)

-- ---- of what is told

-- a refused call tells that the name of its Open was not found
pub record TellsAbsence (call : Call) (fault : Fault) (name : List ℕ) : Type 0 where
  pub opening : Open
  pub is_open : call ≡ calls.Open opening
  pub not_found : fault ≡ faults.NotFound
  pub is_name : name ≡ opening.name

abbrev TellsSo : Call → Option CallResult → Option (List ℕ) → Type 0
TellsSo call answer told = (fault : Fault) (name : List ℕ) → answer ≡ Some (results.Refused fault) → told ≡ Some name → TellsAbsence call fault name

absent : (opening : Open) (fault : Fault) (name : List ℕ) → absent_name opening.name fault ≡ Some name → (fault ≡ faults.NotFound) × (name ≡ opening.name)
absent opening faults.NotFound name h = (refl, cc)
absent opening _ name h = absurd cc

of_result : {a b : CallResult} → Some a ≡ Some b → a ≡ b
of_result h = cc

of_fault : {a b : Fault} → results.Refused a ≡ results.Refused b → a ≡ b
of_fault h = cc

module _ (s : MasterState) (client number : ℕ) where
  tells_nothing : (call : Call) (answer : Option CallResult) → TellsSo call answer None
  tells_nothing call answer fault name h k = absurd cc

  told_opened : (opening : Open) (r : Result Handle Fault) → TellsSo (calls.Open opening) (Some (opened_answer (name_space s) r)) (told_by_open opening.name r)
  told_opened opening (Ok handle) = tells_nothing (calls.Open opening) (Some (opened_answer (name_space s) (Ok handle)))
  told_opened opening (Err fault) = λ other name h k.
      let same : fault ≡ other = of_fault (of_result h) in
      let t = absent opening fault name k in
      record { opening = opening; is_open = refl; not_found = sym same ∙ t.0; is_name = t.1 }

  told_create : (opening : Open) (o : Option Create) → TellsSo (calls.Open opening) (admission_of_open s client number opening o).answer (admission_of_open s client number opening o).told
  told_create opening None = told_opened opening (plain_open (name_space s) (caller s client) number opening)
  told_create opening (Some create) = tells_nothing (calls.Open opening) (admission_of_open s client number opening (Some create)).answer

  told_sequencer : (opening : Open) (o : Option Fault) → TellsSo (calls.Open opening) (admission_under s client number opening o).answer (admission_under s client number opening o).told
  told_sequencer opening None = told_create opening opening.create
  told_sequencer opening (Some fault) = tells_nothing (calls.Open opening) (Some (results.Refused fault))

  told_open : (opening : Open) (sequencer : Option (List ℕ)) → TellsSo (calls.Open opening) (open_admission s client number opening sequencer).answer (open_admission s client number opening sequencer).told
  told_open opening sequencer =
      let fault = sequencer_fault (name_space s) sequencer in
      elim (is_of_cell (name_space s) opening.name) as (λ b. TellsSo (calls.Open opening) (cond b (admission_under s client number opening fault) (answering (results.Refused faults.OtherCell))).answer (cond b (admission_under s client number opening fault) (answering (results.Refused faults.OtherCell))).told) [
        | true ↦ told_sequencer opening fault
        | false ↦ tells_nothing (calls.Open opening) (Some (results.Refused faults.OtherCell))
      ]

  told_check : (bytes : List ℕ) (o : Option Fault) → TellsSo (calls.CheckSequencer bytes) (check_admission s bytes o).answer (check_admission s bytes o).told
  told_check bytes None = tells_nothing (calls.CheckSequencer bytes) (check_admission s bytes None).answer
  told_check bytes (Some fault) = tells_nothing (calls.CheckSequencer bytes) (Some (results.Refused fault))

  told_viewed : (call : Call) (own : List ℕ) (answer : Option CallResult) → TellsSo call answer (option_and_then (viewed_name own) answer)
  told_viewed call own answer fault name h k =
      let none : option_and_then (viewed_name own) answer ≡ None = ap (option_and_then (viewed_name own)) h in
      absurd cc

  told_handle : (call : Call) (sequencer : Option (List ℕ)) (o : Option Handle) → TellsSo call (handle_admission s call sequencer o).answer (handle_admission s call sequencer o).told
  told_handle call sequencer None = tells_nothing call (Some (results.Refused faults.BadHandle))
  told_handle call sequencer (Some handle) = told_viewed call handle.name (answer_on (name_space s) handle call sequencer)

  told_call : (call : Call) (sequencer : Option (List ℕ)) → TellsSo call (admission_of s client number call sequencer).answer (admission_of s client number call sequencer).told
  told_call (calls.Open opening) sequencer = told_open opening sequencer
  told_call (calls.CheckSequencer bytes) sequencer = told_check bytes (sequencer_fault (name_space s) sequencer)
  told_call calls.Leave sequencer = tells_nothing calls.Leave None
  told_call call sequencer = told_handle call sequencer (shown_handle s client (bytes_of call))

pub tells_absence : (s : MasterState) (message : CallMessage) (fault : Fault) (name : List ℕ) → (admission_for s message).answer ≡ Some (results.Refused fault) → (admission_for s message).told ≡ Some name → TellsAbsence message.call fault name
tells_absence s message = told_call s message.client message.number message.call message.sequencer

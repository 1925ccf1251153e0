-- What a new call notes of a handle.
use Rattle.std.proofs.Common.{◌≡◌, ℕ, List, Bool, true, false, cond, Option, Some, None, Result, Ok, Err, refl, subst}
use Rattle.std.specs.Prelude.{◌&&◌, ◌==◌, nat_lt, is_none}
use Rattle.std.specs.Option.{option_map_or}
use Rattle.std.proofs.lemmas.Bool.{and_parts}
use Rattle.node_core.specs.declared.refusals.Fault.{Fault}
use Rattle.node_core.specs.declared.refusals.Fault.TheVariants as faults
use Rattle.tags_cell.specs.Handles.{handle_bytes, read_handle}
use Rattle.tags_cell.specs.declared.messages.calls.Call.{Call}
use Rattle.tags_cell.specs.declared.messages.calls.Call.TheVariants as calls
use Rattle.tags_cell.specs.declared.messages.calls.Create.{Create}
use Rattle.tags_cell.specs.declared.messages.calls.Open.{Open}
use Rattle.tags_cell.specs.declared.handles.Handle.{Handle}
use Rattle.tags_cell.specs.declared.messages.outs.CallResult.TheVariants as results
use Rattle.tags_cell.specs.declared.messages.requests.CallMessage.{CallMessage}
use Rattle.master_parts.specs.declared.handles.HandleState.{HandleState}
use Rattle.master_state.specs.NameSpace.{name_space, caller}
use Rattle.master_state.specs.State.{MasterState}
use Rattle.master_state.specs.Lookups.{handle_state_of, is_usable, plain_open, opened_note, own_handle, shown_handle, is_of_cell, sequencer_fault}
use Rattle.master_parts.specs.Keys.{key_of}
use Rattle.master_parts.specs.Notes.{open_note}
use Rattle.master_parts.specs.Calls.{bytes_of}
use Rattle.cell_core.specs.Step.{shown_note, answering, admission_of_open, admission_under, open_admission, check_admission, handle_admission, admission_of, admission_for}
use Rattle.master_laws.proofs.OpenedKeys.{plain_key}
use Rattle.master_laws.proofs.ClosedNotes.{AreFair, is_first, is_by_open, none_fair, one_fair}

no_value : (o : Option HandleState) → is_none o ≡ true → o ≡ None
no_value None h = refl
no_value (Some state) h = absurd cc

-- a handle that is shown is of use
shown_usable : (s : MasterState) (client : ℕ) (o : Option Handle) (handle : Handle) → option_map_or (λ h. own_handle s client h) o None ≡ Some handle → is_usable s handle (handle_state_of s (key_of handle)) ≡ true
shown_usable s client None handle is = absurd cc
shown_usable s client (Some own) handle is =
    let usable : Bool = is_usable s own (handle_state_of s (key_of own)) in
    (elim (own.client == client && usable) as (λ b. (own.client == client && usable) ≡ b → cond {A = Option Handle} b (Some own) None ≡ Some handle → is_usable s handle (handle_state_of s (key_of handle)) ≡ true) [
      | true ↦ (λ e k.
          let same : own ≡ handle = cc in
          subst (λ (h : Handle). is_usable s h (handle_state_of s (key_of h)) ≡ true) same (and_parts (own.client == client) usable e).1)
      | false ↦ (λ e k. absurd cc)
    ]) refl is

module _ (s : MasterState) (client number : ℕ) where
  -- ---- an Open

  of_opened : (opening : Open) (r : Result Handle Fault) → plain_open (name_space s) (caller s client) number opening ≡ r → AreFair s client number (calls.Open opening) (opened_note (name_space s) r)
  of_opened opening (Ok handle) h =
      one_fair s client number (calls.Open opening) (open_note handle (handle_bytes s.secret handle))
      (is_by_open s client number (calls.Open opening) (open_note handle (handle_bytes s.secret handle)) (plain_key s client number opening handle h))
  of_opened opening (Err fault) h = none_fair s client number (calls.Open opening)

  of_create : (opening : Open) (o : Option Create) → AreFair s client number (calls.Open opening) (admission_of_open s client number opening o).note
  of_create opening None = of_opened opening (plain_open (name_space s) (caller s client) number opening) refl
  of_create opening (Some create) = none_fair s client number (calls.Open opening)

  of_sequencer : (opening : Open) (o : Option Fault) → AreFair s client number (calls.Open opening) (admission_under s client number opening o).note
  of_sequencer opening None = of_create opening opening.create
  of_sequencer opening (Some fault) = none_fair s client number (calls.Open opening)

  of_open : (opening : Open) (sequencer : Option (List ℕ)) → AreFair s client number (calls.Open opening) (open_admission s client number opening sequencer).note
  of_open opening sequencer =
      let fault = sequencer_fault (name_space s) sequencer in
      elim (is_of_cell (name_space s) opening.name) as (λ b. AreFair s client number (calls.Open opening) (cond b (admission_under s client number opening fault) (answering (results.Refused faults.OtherCell))).note) [
        | true ↦ of_sequencer opening fault
        | false ↦ none_fair s client number (calls.Open opening)
      ]

  -- ---- any other

  of_check : (bytes : List ℕ) (o : Option Fault) → AreFair s client number (calls.CheckSequencer bytes) (check_admission s bytes o).note
  of_check bytes None = none_fair s client number (calls.CheckSequencer bytes)
  of_check bytes (Some fault) = none_fair s client number (calls.CheckSequencer bytes)

  of_shown : (call : Call) (handle : Handle) (bytes : List ℕ) → is_usable s handle (handle_state_of s (key_of handle)) ≡ true → AreFair s client number call (shown_note s handle bytes)
  of_shown call handle bytes usable =
      (elim (is_none (handle_state_of s (key_of handle))) as (λ b. is_none (handle_state_of s (key_of handle)) ≡ b → AreFair s client number call (cond b (Some (open_note handle bytes)) None)) [
        | true ↦ (λ h.
            let none : handle_state_of s (key_of handle) ≡ None = no_value (handle_state_of s (key_of handle)) h in
            let earlier : nat_lt handle.epoch s.epoch ≡ true = subst (λ (o : Option HandleState). is_usable s handle o ≡ true) none usable in
            one_fair s client number call (open_note handle bytes)
            (is_first s client number call (open_note handle bytes) (record { shown = record { handle = handle; bytes = bytes }; opens = refl; none = none; earlier = earlier })))
        | false ↦ (λ h. none_fair s client number call)
      ]) refl

  of_handle : (call : Call) (sequencer : Option (List ℕ)) (bytes : List ℕ) (o : Option Handle) → shown_handle s client bytes ≡ o → AreFair s client number call (handle_admission s call sequencer o).note
  of_handle call sequencer bytes None is = none_fair s client number call
  of_handle call sequencer bytes (Some handle) is = of_shown call handle (bytes_of call) (shown_usable s client (read_handle s.secret bytes) handle is)

  of_call : (call : Call) (sequencer : Option (List ℕ)) → AreFair s client number call (admission_of s client number call sequencer).note
  of_call (calls.Open opening) sequencer = of_open opening sequencer
  of_call (calls.CheckSequencer bytes) sequencer = of_check bytes (sequencer_fault (name_space s) sequencer)
  of_call calls.Leave sequencer = none_fair s client number calls.Leave
  of_call call sequencer = of_handle call sequencer (bytes_of call) (shown_handle s client (bytes_of call)) refl

pub taken_fair : (s : MasterState) (message : CallMessage) → AreFair s message.client message.number message.call (admission_for s message).note
taken_fair s message = of_call s message.client message.number message.call message.sequencer

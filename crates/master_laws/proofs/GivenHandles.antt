-- The handle that an Open gives is that of its call, and it is open.
use Rattle.std.proofs.Common.{◌≡◌, ℕ, false, Some, None, Result, Ok, Err, refl, sym, ap, ◌∙◌}
use Rattle.std.specs.Prelude.{◌&&◌}
use Rattle.std.specs.Option.{option_map_or}
use Rattle.std.specs.Map.{lookup}
use Rattle.std.specs.BTreeMap.{is_at}
use Rattle.node_core.specs.Nodes.{get_node}
use Rattle.node_core.specs.declared.refusals.Fault.{Fault}
use Rattle.node_core.specs.declared.refusals.Fault.TheVariants as faults
use Rattle.node_core.specs.declared.nodes.Node.{Node}
use Rattle.tags_cell.specs.Handles.{is_ordinal, handle_bytes}
use Rattle.tags_cell.specs.declared.messages.calls.Open.{Open}
use Rattle.tags_cell.specs.declared.handles.Handle.{Handle}
use Rattle.tags_cell.specs.declared.messages.outs.CallResult.{CallResult}
use Rattle.tags_cell.specs.declared.messages.outs.CallResult.TheVariants as results
use Rattle.tags_cell.specs.declared.messages.outs.NewHandle.{NewHandle}
use Rattle.tags_cell.specs.declared.messages.requests.CallMessage.{CallMessage}
use Rattle.master_parts.specs.Keys.{handle_order}
use Rattle.master_parts.specs.declared.handles.HandleState.TheVariants as states
use Rattle.master_parts.specs.declared.pending.Taken.{Taken}
use Rattle.master_state.specs.NameSpace.{name_space, caller}
use Rattle.master_state.specs.State.{MasterState}
use Rattle.master_state.specs.Lookups.{noted, missing_right, numbered_handle, open_present, plain_open, opened_answer, opened_note}
use Rattle.master_parts.specs.Keys.{key_of}
use Rattle.master_parts.specs.Notes.{open_note}
use Rattle.master_state.specs.Updates.{with_note}
use Rattle.master_parts.specs.Calls.{is_too_long}
use Rattle.cell_core.specs.Step.{admission_for}
use Rattle.master_laws.specs.Opens.{handle_for, GivenHandleIsOpen}
use Rattle.master_laws.proofs.Answered.{IsSent, same_answer, sent_at_once}
use Rattle.master_laws.proofs.Closes.{known_note}
use Rattle.master_laws.proofs.NewCalls.{NewCase, new_by, new_case}
use Rattle.master_laws.proofs.NewCalls.NewCase.{Recovers, Answers, Grants, Queues}
use Rattle.master_laws.proofs.OpenedKeys.{if_so}
use Rattle.master_laws.proofs.PlainOpens.{unless_missing, opened, tested}

-- ---- which handle it is

pub record IsOn (s : MasterState) (message : CallMessage) (opening : Open) (handle : Handle) : Type 0 where
  pub view : Node
  pub there : get_node s.nodes opening.name ≡ Some view
  pub same : handle_for s message opening view ≡ handle

is_on : (s : MasterState) (message : CallMessage) (opening : Open) (handle : Handle) → plain_open (name_space s) (caller s message.client) message.number opening ≡ Ok handle → IsOn s message opening handle
is_on s message opening handle =
    let client : ℕ = message.client in
    let number : ℕ = message.number in
    (elim (get_node s.nodes opening.name) as (λ o. get_node s.nodes opening.name ≡ o → option_map_or (λ view. open_present (name_space s) (caller s client) number opening view) o (Err faults.NotFound) ≡ Ok handle → IsOn s message opening handle) [
      | None ↦ (λ is h. absurd cc)
      | Some view ↦ (λ is h.
          let t = unless_missing (missing_right (name_space s) (caller s client) opening.mode view) (is_too_long opening.delay) (numbered_handle (name_space s) (caller s client) number opening view) handle h in
          record { view = view; there = is; same = if_so (is_ordinal s.epoch && is_ordinal view.instance) (handle_for s message opening view) handle t.2 })
    ]) refl

-- ---- what the master knows of it

-- a call that is answered at once notes what its tests say
module _ (s : MasterState) (message : CallMessage) (new : MasterState) (taken : Taken) (answer : CallResult) (serving : s.recovering ≡ false) (at_once : (admission_for s message).answer ≡ Some answer) where
  noted_as : (c : NewCase s message) → (new, taken) ≡ new_by s message c → new.handles ≡ (with_note s (admission_for s message).note).handles
  noted_as (Recovers recovering) is = absurd cc
  noted_as (Answers shown other going h) is = ap (λ p. p.0.handles) is ∙ ap (λ n. (with_note s n).handles) h.is_noted
  noted_as (Grants shown other name going h) is = ap (λ p. p.0.handles) is ∙ ap (λ n. (with_note s n).handles) h.is_noted
  noted_as (Queues shown touched going h) is = let e = h.passes in absurd cc

-- ---- the law

same_given : {a b : NewHandle} → results.Opened a ≡ results.Opened b → a ≡ b
same_given h = cc

pub given_handle_is_open : GivenHandleIsOpen
given_handle_is_open s new now message opening taken given takes plain answered =
    let there : MasterState = noted s now in
    let result : Result Handle Fault = plain_open (name_space s) (caller s message.client) message.number opening in
    let admitted = tested there message opening (record { is_open = plain.is_open; makes_nothing = plain.makes_nothing; under_none = plain.under_none; of_cell = plain.of_cell }) in
    let at_once : (admission_for there message).answer ≡ Some (opened_answer (name_space there) result) = ap (λ a. a.answer) admitted in
    let notes : (admission_for there message).note ≡ opened_note (name_space there) result = ap (λ a. a.note) admitted in
    let case = new_case s new now message taken takes.step takes.is_new in
    let sent : IsSent taken message (opened_answer (name_space there) result) = sent_at_once there message new taken (opened_answer (name_space there) result) takes.serving at_once case in
    let is : results.Opened given ≡ opened_answer (name_space there) result = same_answer taken message (opened_answer (name_space there) result) (results.Opened given) sent answered in
    let t = opened there result given is in
    let on = is_on s message opening t.0 t.1 in
    let handle : Handle = handle_for s message opening on.view in
    let opens : result ≡ Ok handle = t.1 ∙ ap (λ h. Ok h) (sym on.same) in
    let same : given ≡ record { bytes = handle_bytes s.secret handle; instance = handle.instance; life = handle.life } = same_given (is ∙ ap (opened_answer (name_space there)) opens) in
    let entries : new.handles ≡ (with_note there (Some (open_note handle (handle_bytes s.secret handle)))).handles =
    noted_as there message new taken (opened_answer (name_space there) result) takes.serving at_once case.0 case.1 ∙ ap (λ n. (with_note there n).handles) (notes ∙ ap (opened_note (name_space there)) opens) in
    record {
      view = on.view;
      there = on.there;
      bytes = ap (λ g. g.bytes) same;
      instance = ap (λ g. g.instance) same;
      life = ap (λ g. g.life) same;
      known =
          ap (λ es. lookup (is_at (handle_order (key_of handle))) es) entries
          ∙ known_note there (key_of handle) (states.Open (record { handle = handle; bytes = handle_bytes s.secret handle }))
          ∙ ap (λ b. Some (states.Open (record { handle = handle; bytes = b }))) (sym (ap (λ g. g.bytes) same));
    }

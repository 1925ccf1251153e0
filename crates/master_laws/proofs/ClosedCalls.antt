-- A call that shows a closed handle is refused, and changes nothing else.
use Rattle.std.proofs.Common.{◌≡◌, ℕ, List, Bool, true, false, Option, Some, None, refl, sym, ap, ◌∙◌, ⊎_elim, arith}
use Rattle.std.specs.Prelude.{◌&&◌, ◌==◌, not, nat_lt}
use Rattle.std.proofs.lemmas.Bool.{and_parts}
use Rattle.std.proofs.lemmas.Bool.Decides.{nat_tests}
use Rattle.std.specs.Option.{option_map_or}
use Rattle.node_core.specs.declared.refusals.Fault.TheVariants as faults
use Rattle.tags_cell.specs.Handles.{read_handle}
use Rattle.tags_cell.specs.declared.messages.calls.Call.{Call}
use Rattle.tags_cell.specs.declared.messages.calls.Call.TheVariants as calls
use Rattle.tags_cell.specs.declared.handles.Handle.{Handle}
use Rattle.tags_cell.specs.declared.messages.outs.CallResult.{CallResult}
use Rattle.tags_cell.specs.declared.messages.outs.CallResult.TheVariants as results
use Rattle.tags_cell.specs.declared.messages.requests.CallMessage.{CallMessage}
use Rattle.master_parts.specs.declared.handles.HandleState.{HandleState}
use Rattle.master_parts.specs.declared.handles.HandleState.TheVariants as states
use Rattle.master_parts.specs.declared.pending.Taken.{Taken}
use Rattle.master_state.specs.State.{MasterState}
use Rattle.master_state.specs.Lookups.{handle_state_of, is_usable, own_handle, shown_handle, noted}
use Rattle.master_parts.specs.Keys.{key_of}
use Rattle.cell_core.specs.Step.{answering, handle_admission, admission_of, admission_for, replied}
use Rattle.master_state.specs.Updates.{with_note}
use Rattle.master_laws.specs.Closed.{is_closed, IsClosed, shown_bytes, ClosedHandleIsRefused}
use Rattle.master_laws.proofs.NewCalls.{NewCase, new_by, IsNewCase, new_case}
use Rattle.master_laws.proofs.NewCalls.NewCase.{Recovers, Answers, Grants, Queues}

-- ---- an answer that notes nothing, and tells of no name

module _ (s : MasterState) (message : CallMessage) (answer : CallResult) (serving : s.recovering ≡ false) (admitted : admission_for s message ≡ answering answer) where
  as_case : (p : MasterState × Taken) (c : NewCase s message) → p ≡ new_by s message c → p ≡ replied s message.client message.number answer
  as_case p (Recovers recovering) is = absurd cc
  as_case p (Answers noted other going h) is =
      let nothing : noted ≡ None = h.is_noted ∙ ap (λ a. a.note) admitted in
      let has : (admission_for s message).answer ≡ Some answer = ap (λ a. a.answer) admitted in
      let same : other ≡ answer = ⊎_elim (λ l. let e = l.0 in cc) (λ r. let e = r.0 in absurd cc) h.is_answer in
      is ∙ ap (λ n. replied (with_note s n) message.client message.number other) nothing ∙ ap (λ a. replied s message.client message.number a) same
  as_case p (Grants noted other name going h) is =
      let none : (admission_for s message).told ≡ None = ap (λ a. a.told) admitted in
      let some = h.is_told in
      absurd cc
  as_case p (Queues noted touched going h) is =
      let has : (admission_for s message).answer ≡ Some answer = ap (λ a. a.answer) admitted in
      let none = h.passes in
      absurd cc

  pub answered_plainly : (p : MasterState × Taken) → IsNewCase s message p → p ≡ replied s message.client message.number answer
  answered_plainly p c = as_case p c.0 c.1

-- ---- by the handle that is shown

both_fail : (b c : Bool) → c ≡ false → (b && c) ≡ false
both_fail true c h = h
both_fail false c h = refl

turned : (b : Bool) → not b ≡ true → b ≡ false
turned true h = sym h
turned false h = refl

not_below : (n m : ℕ) → (n == m) ≡ true → nat_lt n m ≡ false
not_below n m h = grind (arith, nat_tests)

unusable : (s : MasterState) (handle : Handle) (o : Option HandleState) → is_closed s.epoch handle o ≡ true → is_usable s handle o ≡ false
unusable s handle (Some (states.Open noted)) h = turned (handle.epoch == noted.handle.epoch) (and_parts (handle.epoch == s.epoch) (not (handle.epoch == noted.handle.epoch)) h).1
unusable s handle (Some states.Closed) h = refl
unusable s handle None h = not_below handle.epoch s.epoch h

none_shown : (s : MasterState) (client : ℕ) (bytes : List ℕ) (handle : Handle) → read_handle s.secret bytes ≡ Some handle → IsClosed s handle → shown_handle s client bytes ≡ None
none_shown s client bytes handle reads closed =
    ap (λ o. option_map_or (λ h. own_handle s client h) o None) reads
    ∙ rw (both_fail (handle.client == client) (is_usable s handle (handle_state_of s (key_of handle))) (unusable s handle (handle_state_of s (key_of handle)) closed)) refl

same_value : {X : Type 0} {x y : X} → Some x ≡ Some y → x ≡ y
same_value h = cc

-- a call that shows bytes is admitted by what they are
pub by_bytes : (s : MasterState) (client number : ℕ) (call : Call) (sequencer : Option (List ℕ)) (bytes : List ℕ) → shown_bytes call ≡ Some bytes → admission_of s client number call sequencer ≡ handle_admission s call sequencer (shown_handle s client bytes)
by_bytes s client number (calls.Open opening) sequencer bytes h = absurd cc
by_bytes s client number (calls.CheckSequencer other) sequencer bytes h = absurd cc
by_bytes s client number calls.Leave sequencer bytes h = absurd cc
by_bytes s client number call sequencer bytes h = ap (λ b. handle_admission s call sequencer (shown_handle s client b)) (same_value h)

pub closed_handle_is_refused : ClosedHandleIsRefused
closed_handle_is_refused s new now message handle taken takes shown closed =
    let there : MasterState = noted s now in
    let answer : CallResult = results.Refused faults.BadHandle in
    let none : shown_handle there message.client shown.bytes ≡ None = none_shown s message.client shown.bytes handle shown.reads closed in
    let admitted : admission_for there message ≡ answering answer =
    by_bytes there message.client message.number message.call message.sequencer shown.bytes shown.shown ∙ ap (handle_admission there message.call message.sequencer) none in
    answered_plainly there message answer takes.serving admitted (new, taken) (new_case s new now message taken takes.step takes.is_new)

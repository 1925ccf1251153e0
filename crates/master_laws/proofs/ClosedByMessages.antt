-- A closed handle stays closed by each message but the Open that gave it, and no such Open comes to wait.
use Rattle.std.proofs.Common.{◌≡◌, ℕ, List, [], ◌∷◌, ◌++◌, false, Option, Some, None, refl, sym, ap, subst, ◌∙◌}
use Rattle.std.specs.Prelude.{◌+◌}
use Rattle.std.specs.List.{list_any}
use Rattle.std.proofs.lemmas.List.Folds.{list_any-append}
use Rattle.gate_core.specs.declared.pending.Waiting.{Waiting}
use Rattle.tags_cell.specs.declared.messages.requests.CallMessage.{CallMessage}
use Rattle.tags_cell.specs.declared.messages.requests.Request.{Request}
use Rattle.tags_cell.specs.declared.messages.requests.Request.TheVariants as requests
use Rattle.tags_cell.specs.declared.handles.Handle.{Handle}
use Rattle.master_parts.specs.declared.handles.HandleKey.{HandleKey}
use Rattle.master_parts.specs.Keys.{key_of}
use Rattle.master_parts.specs.declared.handles.HandleNote.{HandleNote}
use Rattle.master_parts.specs.declared.pending.Task.{Task}
use Rattle.master_parts.specs.declared.pending.Task.TheVariants as tasks
use Rattle.master_parts.specs.declared.pending.Work.TheVariants as works
use Rattle.master_state.specs.State.{MasterState}
use Rattle.master_state.specs.Lookups.{noted}
use Rattle.master_state.specs.Updates.{with_note}
use Rattle.cell_core.specs.declared.asking.TouchedNames.{TouchedNames}
use Rattle.cell_core.specs.Step.{admission_for, asking, asking_for, with_call, names_of, task_of}
use Rattle.cell_core.specs.Cases.{IsNew, TakeCase, taken_by}
use Rattle.cell_core.specs.Cases.TakeCase.{StartRefused, StartRecovering, StartFull, StartQueued, OldBeat, BeatRefused, BeatParked, OldEpoch, NoSession, LeftBefore, Repeated, OlderCall, Outstanding, LeavesBeside, Recovering, Answered, Granted, Waits}
use Rattle.cell_core.proofs.TakeCases.{taken_case}
use Rattle.master_laws.specs.Closed.{IsClosed, opens_as, asks_to_open, task_opens, waits_to_open, ClosedHandleStaysClosed, ClosedForGoodByMessages}
use Rattle.master_laws.proofs.ClosedNotes.{AreFair, stays_closed}
use Rattle.master_laws.proofs.TakenNotes.{taken_fair}

-- one more that waits, and isn't the Open
unasked_behind : (key : HandleKey) (waiting : List (Waiting Task)) (w : Waiting Task) → task_opens key w.change.body ≡ false → list_any (λ (v : Waiting Task). task_opens key v.change.body) waiting ≡ false → list_any (λ (v : Waiting Task). task_opens key v.change.body) (waiting ++ w ∷ []) ≡ false
unasked_behind key waiting w last h = list_any-append (λ (v : Waiting Task). task_opens key v.change.body) waiting (w ∷ []) ∙ rw (h, last) refl

module _ (s : MasterState) (request : Request) (handle : Handle) (other : asks_to_open (key_of handle) request ≡ false) where
  not_opened : (message : CallMessage) → request ≡ requests.Call message → opens_as (key_of handle) message.client message.number message.call ≡ false
  not_opened message is = subst (λ r. asks_to_open (key_of handle) r ≡ false) is other

  module _ (closed : IsClosed s handle) where
    by_note : (message : CallMessage) (note : Option HandleNote) → IsNew s request message → note ≡ (admission_for s message).note → IsClosed (with_note s note) handle
    by_note message note new is =
        stays_closed s message.client message.number message.call handle closed (not_opened message new.heard.is_call) note
        (subst (AreFair s message.client message.number message.call) (sym is) (taken_fair s message))

    asked_closed : (t : MasterState) (names : List (List ℕ)) → IsClosed t handle → IsClosed (asking_for t names) handle
    asked_closed t [] h = h
    asked_closed t (name ∷ names) h = asked_closed (asking t name) names h

    closed_by : (c : TakeCase s request) → IsClosed (taken_by s request c).0 handle
    closed_by (StartRefused start is may) = closed
    closed_by (StartRecovering start is may recovering) = closed
    closed_by (StartFull start is may going full) = closed
    closed_by (StartQueued start is may going room) = closed
    closed_by (OldBeat beat is old) = closed
    closed_by (BeatRefused beat fault is epoch refused) = closed
    closed_by (BeatParked beat is epoch passes) = closed
    closed_by (OldEpoch message is old) = closed
    closed_by (NoSession message is epoch ended) = closed
    closed_by (LeftBefore message kept request_is same_epoch ended is equal) = closed
    closed_by (Repeated message kept heard is equal) = closed
    closed_by (OlderCall message kept heard is less) = closed
    closed_by (Outstanding message kept heard is more none) = closed
    closed_by (LeavesBeside message heard beside) = closed
    closed_by (Recovering message new recovering) = closed
    closed_by (Answered message note answer new going answered) = by_note message note new answered.is_noted
    closed_by (Granted message note answer name new going granted) = by_note message note new granted.is_noted
    closed_by (Waits message note touched new going admitted) = asked_closed (with_call (with_note s note) message touched) (names_of touched) (by_note message note new admitted.is_noted)

  module _ (unasked : waits_to_open (key_of handle) s ≡ false) where
    asked_unasked : (t : MasterState) (names : List (List ℕ)) → waits_to_open (key_of handle) t ≡ false → waits_to_open (key_of handle) (asking_for t names) ≡ false
    asked_unasked t [] h = h
    asked_unasked t (name ∷ names) h = asked_unasked (asking t name) names h

    called_unasked : (message : CallMessage) (note : Option HandleNote) (touched : Option TouchedNames) → IsNew s request message → waits_to_open (key_of handle) (with_call (with_note s note) message touched) ≡ false
    called_unasked message None touched new = unasked_behind (key_of handle) s.gate.waiting (record { number = s.gate.pushed + 1; change = record { touched = names_of touched; body = tasks.Asked (task_of message) } }) (not_opened message new.heard.is_call) unasked
    called_unasked message (Some note) touched new = unasked_behind (key_of handle) s.gate.waiting (record { number = s.gate.pushed + 1; change = record { touched = names_of touched; body = tasks.Asked (task_of message) } }) (not_opened message new.heard.is_call) unasked

    noted_unasked : (note : Option HandleNote) → waits_to_open (key_of handle) (with_note s note) ≡ false
    noted_unasked None = unasked
    noted_unasked (Some note) = unasked

    unasked_by : (c : TakeCase s request) → waits_to_open (key_of handle) (taken_by s request c).0 ≡ false
    unasked_by (StartRefused start is may) = unasked
    unasked_by (StartRecovering start is may recovering) = unasked
    unasked_by (StartFull start is may going full) = unasked
    unasked_by (StartQueued start is may going room) = unasked_behind (key_of handle) s.gate.waiting (record { number = s.gate.pushed + 1; change = record { touched = []; body = tasks.Asked (record { client = start.client; number = start.number; work = works.Starts start.principal s.clock }) } }) refl unasked
    unasked_by (OldBeat beat is old) = unasked
    unasked_by (BeatRefused beat fault is epoch refused) = unasked
    unasked_by (BeatParked beat is epoch passes) = unasked
    unasked_by (OldEpoch message is old) = unasked
    unasked_by (NoSession message is epoch ended) = unasked
    unasked_by (LeftBefore message kept request_is same_epoch ended is equal) = unasked
    unasked_by (Repeated message kept heard is equal) = unasked
    unasked_by (OlderCall message kept heard is less) = unasked
    unasked_by (Outstanding message kept heard is more none) = unasked
    unasked_by (LeavesBeside message heard beside) = unasked_behind (key_of handle) s.gate.waiting (record { number = s.gate.pushed + 1; change = record { touched = []; body = tasks.Asked (task_of message) } }) (not_opened message heard.is_call) unasked
    unasked_by (Recovering message new recovering) = unasked
    unasked_by (Answered message note answer new going answered) = noted_unasked note
    unasked_by (Granted message note answer name new going granted) = noted_unasked note
    unasked_by (Waits message note touched new going admitted) = asked_unasked (with_call (with_note s note) message touched) (names_of touched) (called_unasked message note touched new)

pub closed_handle_stays_closed : ClosedHandleStaysClosed
closed_handle_stays_closed s new now request handle taken h other closed =
    let c = taken_case s new now request taken h in
    subst (λ m. IsClosed m handle) (sym (ap (λ p. p.0) c.1)) (closed_by (noted s now) request handle other closed c.0)

pub closed_for_good_by_messages : ClosedForGoodByMessages
closed_for_good_by_messages s new now request handle taken h other gone =
    let c = taken_case s new now request taken h in
    record {
      closed = closed_handle_stays_closed s new now request handle taken h other gone.closed;
      unasked = subst (λ m. waits_to_open (key_of handle) m ≡ false) (sym (ap (λ p. p.0) c.1)) (unasked_by (noted s now) request handle other gone.unasked c.0);
    }

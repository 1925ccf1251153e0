-- When a Close has its turn its handle is closed.
use Rattle.std.proofs.Common.{◌≡◌, ℕ, List, [], ◌∷◌, Bool, true, false, cond, Option, Some, None, Ok, refl, sym, ap, subst, ◌∙◌}
use Rattle.std.specs.Prelude.{◌==◌, Contains}
use Rattle.std.specs.Ordering.{is_eq}
use Rattle.std.specs.Map.{lookup}
use Rattle.std.specs.BTreeMap.{is_at, insert_entry}
use Rattle.std.proofs.lemmas.List.Elements.{Contains-push, Contains-append_left}
use Rattle.collections.proofs.Entries.{lookup_put}
use Rattle.tags_cell.specs.Handles.{read_handle}
use Rattle.tags_cell.specs.declared.messages.calls.Call.TheVariants as calls
use Rattle.tags_cell.specs.declared.handles.Handle.{Handle}
use Rattle.tags_cell.specs.declared.messages.outs.CallResult.TheVariants as results
use Rattle.tags_cell.specs.declared.messages.outs.Out.{Out}
use Rattle.tags_cell.specs.declared.messages.outs.Out.TheVariants as outs
use Rattle.tags_cell.specs.declared.messages.outs.Reply.{Reply}
use Rattle.master_parts.specs.Keys.{handle_order}
use Rattle.master_parts.specs.OpenHandles.{is_shut, with_state}
use Rattle.master_parts.specs.declared.handles.HandleKey.{HandleKey}
use Rattle.master_parts.specs.declared.handles.HandleState.{HandleState}
use Rattle.master_parts.specs.declared.handles.HandleState.TheVariants as states
use Rattle.master_parts.specs.declared.pending.WaitingRequest.{WaitingRequest}
use Rattle.master_state.specs.NameSpace.{name_space, caller}
use Rattle.master_state.specs.State.{MasterState}
use Rattle.master_parts.specs.Keys.{key_of}
use Rattle.master_state.specs.Lookups.{handle_state_of, noted, reply_of}
use Rattle.master_parts.proofs.PlacedHandles.{exact_handle, same_handle}
use Rattle.over_core.specs.declared.plans.Plan.{Plan}
use Rattle.over_core.specs.declared.swept.Swept.{Swept}
use Rattle.cell_core.specs.Effect.{closed_state, close_at, handle_effect, effect}
use Rattle.master_state.specs.Replies.{sent}
use Rattle.cell_core.specs.Outcomes.{locking_replies}
use Rattle.over_core.specs.Sweep.{sweep_step}
use Rattle.master_laws.specs.Steps.{IsBeingApplied}
use Rattle.master_laws.specs.Closed.{is_closed, CloseCloses}
use Rattle.master_laws.proofs.AfterSweeps.{done_handles, done_epoch}
use Rattle.master_laws.proofs.ClosedNotes.{stated, known_then, is_shut_closed}
use Rattle.over_core.proofs.SweepCases.{does_first}
use Rattle.master_laws.proofs.Applications.{plan_for, done_as, done_so}

-- a handle that a Close closes is closed, whatever was known of it
closed_now : (epoch : ℕ) (handle : Handle) (shut : Bool) (known : Option HandleState) → shut ≡ is_shut known → is_closed epoch handle (stated shut true (cond (handle.epoch == epoch) None (Some states.Closed)) known) ≡ true
closed_now epoch handle shut known same =
    (elim (handle.epoch == epoch) as (λ b. (handle.epoch == epoch) ≡ b → is_closed epoch handle (stated shut true (cond b None (Some states.Closed)) known) ≡ true) [
      | true ↦ (λ own.
          (elim shut as (λ b. b ≡ is_shut known → is_closed epoch handle (cond b known None) ≡ true) [
            | true ↦ (λ h. is_shut_closed epoch handle known (sym h))
            | false ↦ (λ h. own)
          ]) same)
      | false ↦ (λ own. refl)
    ]) refl

-- what is noted of a handle is what is known of it
pub known_note : (s : MasterState) (key : HandleKey) (state : HandleState) → lookup (is_at (handle_order key)) (insert_entry handle_order s.handles key state) ≡ Some state
known_note s key state = lookup_put handle_order exact_handle same_handle s.handles key state key ∙ rw (same_handle key) refl

closing : (s : MasterState) (client number : ℕ) (bytes : List ℕ) (sequencer : Option (List ℕ)) (handle : Handle) → read_handle s.secret bytes ≡ Some handle → effect (name_space s) (caller s client) s.clock number (calls.Close bytes) sequencer ≡ close_at (name_space s) handle
unfolding effect
closing s client number bytes sequencer handle reads = ap (handle_effect (name_space s) s.clock (calls.Close bytes) sequencer) reads

has_first : (x : Out) (rest : List Out) → Contains (x ∷ rest) x
has_first x rest = Contains-append_left (x ∷ []) rest x (Contains-push [] x)

-- what is planned for the Close
abbrev pub close_plan : MasterState → ℕ → WaitingRequest → List ℕ → Handle → Plan
close_plan s number asked bytes handle = plan_for s number asked (calls.Close bytes) (close_at (name_space s) handle)

pub closed_so : (s new : MasterState) (now number : ℕ) (told : Swept) (asked : WaitingRequest) (bytes : List ℕ) (sequencer : Option (List ℕ)) (handle : Handle) → sweep_step s now ≡ Ok (new, told) → IsBeingApplied (noted s now) number asked (calls.Close bytes) sequencer → read_handle s.secret bytes ≡ Some handle → (new, told) ≡ done_as (noted s now) (close_plan (noted s now) number asked bytes handle)
closed_so s new now number told asked bytes sequencer handle h turn reads =
    let there : MasterState = noted s now in
    sym (does_first s now (new, told) h)
    ∙ done_so there number asked (calls.Close bytes) sequencer turn refl
    ∙ ap (λ effected. done_as there (plan_for there number asked (calls.Close bytes) effected)) (closing there asked.client asked.number bytes sequencer handle reads)

pub close_closes : CloseCloses
close_closes s new now number told asked bytes sequencer handle h turn reads =
    let there : MasterState = noted s now in
    let is = closed_so s new now number told asked bytes sequencer handle h turn reads in
    let plan : Plan = close_plan there number asked bytes handle in
    let key : HandleKey = key_of handle in
    let epoch : new.epoch ≡ s.epoch = ap (λ p. p.0.epoch) is ∙ done_epoch there plan.update in
    let handles : new.handles ≡ with_state s.handles key (closed_state (name_space there) handle) = ap (λ p. p.0.handles) is ∙ done_handles there plan.update in
    let known : handle_state_of new key ≡ stated (is_shut (handle_state_of s key)) true (closed_state (name_space there) handle) (handle_state_of s key) =
    ap (λ entries. lookup (is_at (handle_order key)) entries) handles ∙ known_then s.handles key key (closed_state (name_space there) handle)
    ∙ ap (λ b. stated (is_shut (handle_state_of s key)) b (closed_state (name_space there) handle) (handle_state_of s key)) (ap is_eq (same_handle key)) in
    let own : Reply = reply_of s asked.client asked.number results.Closed in (
      ap (λ e. is_closed e handle (handle_state_of new key)) epoch
          ∙ ap (is_closed s.epoch handle) known
          ∙ closed_now s.epoch handle (is_shut (handle_state_of s key)) (handle_state_of s key) refl,
      subst (λ p. Contains p.1.outs (outs.Reply own)) (sym is) (has_first (outs.Reply own) (sent (locking_replies there (close_at (name_space there) handle).locking))),
    )

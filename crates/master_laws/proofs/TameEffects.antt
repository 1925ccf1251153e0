-- A call that is refused when its turn comes does nothing else; and what it notes of a handle otherwise.
use Rattle.std.proofs.Common.{◌≡◌, ℕ, List, Bool, true, false, cond, Option, Some, None, Result, Ok, Err, refl, ap}
use Rattle.std.specs.Prelude.{◌||◌, ◌==◌, is_none}
use Rattle.std.specs.Option.{option_map_or}
use Rattle.names_cell.specs.Text.{parent_of}
use Rattle.node_core.specs.declared.refusals.Fault.{Fault}
use Rattle.node_core.specs.declared.refusals.Fault.TheVariants as faults
use Rattle.node_core.specs.declared.nodes.Node.{Node}
use Rattle.node_core.specs.declared.views.Mod.{Mod}
use Rattle.node_core.specs.declared.views.Mod.TheVariants.{Put}
use Rattle.node_core.specs.declared.kinds.Kind.{Kind}
use Rattle.node_core.specs.declared.kinds.Kind.TheVariants.{File, Directory}
use Rattle.node_core.specs.declared.kinds.Right.TheVariants as rights
use Rattle.node_core.specs.Nodes.{get_node, has_children}
use Rattle.tags_cell.specs.Handles.{handle_bytes, read_handle}
use Rattle.tags_cell.specs.declared.handles.Handle.{Handle}
use Rattle.tags_cell.specs.declared.messages.calls.Open.{Open}
use Rattle.tags_cell.specs.declared.messages.calls.Create.{Create}
use Rattle.tags_cell.specs.declared.messages.calls.Disposition.{Disposition}
use Rattle.tags_cell.specs.declared.messages.calls.Disposition.TheVariants.{May, Must}
use Rattle.tags_cell.specs.declared.messages.calls.Call.{Call}
use Rattle.tags_cell.specs.declared.messages.calls.Call.TheVariants as calls
use Rattle.tags_cell.specs.declared.messages.outs.CallResult.{CallResult}
use Rattle.tags_cell.specs.declared.messages.outs.CallResult.TheVariants as results
use Rattle.lock_core.specs.declared.claims.Claim.{Claim}
use Rattle.lock_core.specs.declared.turns.Turn.{Turn}
use Rattle.lock_core.specs.declared.turns.Acquired.{Acquired}
use Rattle.lock_core.specs.declared.turns.Acquired.TheVariants as asked
use Rattle.lock_core.specs.State.{LockState}
use Rattle.lock_core.specs.Turns.{tried, acquired, released}
use Rattle.master_parts.specs.declared.handles.HandleState.TheVariants as states
use Rattle.master_parts.specs.Claims.{owner_of, claim_of}
use Rattle.master_state.specs.NameSpace.{name_space, caller}
use Rattle.master_state.specs.State.{MasterState}
use Rattle.master_state.specs.Lookups.{may, missing_right, is_of_cell, sequencer_fault, lock_under, node_of_handle, new_handle, open_present, plain_open, answer_on}
use Rattle.master_parts.specs.Calls.{create_fault, bytes_of}
use Rattle.master_parts.specs.Keys.{key_of}
use Rattle.master_parts.specs.Notes.{open_note}
use Rattle.cell_core.specs.declared.effects.Effect.{Effect}
use Rattle.cell_core.specs.declared.effects.Locking.{Locking}
use Rattle.cell_core.specs.Effect.{answered, closed_state, refused, changes_to, is_last, new_node_fault, content_fault, lock_fault, unless, opened_effect, new_node, acls_of, create_put, create_made, create_numbered, create_permitted, create_in, create_under, create_new, create_over, create_effect, create_tested, create_under_sequencer, open_effect, lock_taken, acquired_by, acquire_by, try_by, release_by, close_under, generation_fits, with_content, with_acls, put_at, deleted, delete_at, change_at, change_on, effect_on, handle_effect, effect}
use Rattle.master_laws.proofs.OpenedKeys.{IsOfCall, new_key, present_key, plain_key}
use Rattle.master_laws.proofs.ClosedNotes.{AreFair, is_closing, closes, is_by_open, none_fair, one_fair}

-- a refusal comes alone, and what is noted of a handle is fair
pub record IsTame (s : MasterState) (client number : ℕ) (call : Call) (effected : Effect) : Type 0 where
  pub refuses : (fault : Fault) → effected.answer ≡ Some (results.Refused fault) → effected ≡ refused fault
  pub notes : AreFair s client number call effected.note

same_answer : {a b : CallResult} → Some a ≡ Some b → a ≡ b
same_answer h = cc

module _ (s : MasterState) (client number : ℕ) (call : Call) where
  abbrev Tame : Effect → Type 0
  Tame effected = IsTame s client number call effected

  of_answer : (answer : CallResult) → Tame (answered answer)
  of_answer answer = record { refuses = λ fault h. ap answered (same_answer h); notes = none_fair s client number call }

  of_fault : (fault : Fault) → Tame (refused fault)
  of_fault fault = of_answer (results.Refused fault)

  of_change : (change : Mod) (next : ℕ) → Tame (changes_to change next results.Done)
  of_change change next = record { refuses = λ fault h. absurd cc; notes = none_fair s client number call }

  either : (b : Bool) (x y : Effect) → Tame x → Tame y → Tame (cond b x y)
  either true x y h k = h
  either false x y h k = k

  by_option : {X : Type 0} (o : Option X) (f : X → Effect) (y : Effect) → ((x : X) → Tame (f x)) → Tame y → Tame (option_map_or f o y)
  by_option None f y h k = k
  by_option (Some x) f y h k = h x

  -- ---- locks

  of_given : (handle : Handle) (claim : Claim) (given : Acquired) → Tame (acquired_by handle claim given)
  of_given handle claim (asked.Held lock) = record { refuses = λ fault h. absurd cc; notes = none_fair s client number call }
  of_given handle claim (asked.Waits lock) = record { refuses = λ fault h. absurd cc; notes = none_fair s client number call }

  of_acquired : (handle : Handle) (claim : Claim) (room : Option Fault) (r : Result Acquired Fault) → Tame (acquire_by handle claim room r)
  of_acquired handle claim room (Ok given) = by_option room (λ fault. refused fault) (acquired_by handle claim given) of_fault (of_given handle claim given)
  of_acquired handle claim room (Err fault) = of_fault fault

  of_tried : (handle : Handle) (claim : Claim) (room : Option Fault) (r : Result LockState Fault) → Tame (try_by handle claim room r)
  of_tried handle claim room (Ok lock) = by_option room (λ fault. refused fault) (lock_taken handle claim lock) of_fault (record { refuses = λ fault h. absurd cc; notes = none_fair s client number call })
  of_tried handle claim room (Err fault) = of_fault fault

  of_released : (handle : Handle) (r : Result Turn Fault) → Tame (release_by handle r)
  of_released handle (Ok turn) = record { refuses = λ fault h. absurd cc; notes = none_fair s client number call }
  of_released handle (Err fault) = of_fault fault

  is_closed_state : (handle : Handle) → is_closing (closed_state (name_space s) handle) ≡ true
  is_closed_state handle = elim (handle.epoch == s.epoch) as (λ b. is_closing (cond b None (Some states.Closed)) ≡ true) [ true ↦ refl | false ↦ refl ]

  of_closed : (handle : Handle) (locking : Locking) → Tame (record { note = Some (record { key = key_of handle; state = closed_state (name_space s) handle }); change = None; locking = locking; answer = Some results.Closed })
  of_closed handle locking = record {
    refuses = λ fault h. absurd cc;
    notes =
        one_fair s client number call (record { key = key_of handle; state = closed_state (name_space s) handle })
        (closes s client number call (record { key = key_of handle; state = closed_state (name_space s) handle }) (is_closed_state handle));
  }

  -- ---- a change of a node that stands

  of_put : (handle : Handle) (present : ℕ) (wanted : Option ℕ) (room : Option Fault) (view : Node) → Tame (put_at (name_space s) handle present wanted room view)
  of_put handle present wanted room view =
      let changed : Effect = changes_to (Put handle.name view) s.next_instance results.Done in
      let written : Effect = unless room changed in
      either (generation_fits wanted present) (cond (is_last present) (refused faults.Exhausted) written) (refused (faults.WrongGeneration present))
      (either (is_last present) (refused faults.Exhausted) written (of_fault faults.Exhausted) (by_option room (λ fault. refused fault) changed of_fault (of_change (Put handle.name view) s.next_instance)))
      (of_fault (faults.WrongGeneration present))

  of_deleted : (handle : Handle) → Tame (deleted (name_space s) handle)
  of_deleted handle = record { refuses = λ fault h. absurd cc; notes = none_fair s client number call }

  of_delete : (handle : Handle) → Tame (delete_at (name_space s) handle)
  of_delete handle =
      either (has_children s.nodes handle.name || is_none (parent_of handle.name)) (refused faults.NotEmpty) (deleted (name_space s) handle) (of_fault faults.NotEmpty) (of_deleted handle)

  of_node : (handle : Handle) (on : Call) (view : Node) → Tame (change_at (name_space s) s.clock handle on view)
  of_node handle (calls.Set bytes content generation) view = of_put handle view.content_generation generation (content_fault (name_space s) view content) (with_content view content)
  of_node handle (calls.SetAcl bytes acls generation) view = of_put handle view.acl_generation generation None (with_acls view acls)
  of_node handle (calls.Delete bytes) view = of_delete handle
  of_node handle (calls.Acquire bytes mode) view = of_acquired handle (claim_of handle mode) (lock_fault (name_space s) handle.client) (acquired (lock_under (name_space s) handle) (claim_of handle mode))
  of_node handle (calls.TryAcquire bytes mode) view = of_tried handle (claim_of handle mode) (lock_fault (name_space s) handle.client) (tried (lock_under (name_space s) handle) (claim_of handle mode) s.clock)
  of_node handle (calls.Release bytes) view = of_released handle (released (lock_under (name_space s) handle) (owner_of handle))
  of_node handle _ view = of_fault faults.BadHandle

  of_application : (handle : Handle) (on : Call) (o : Option CallResult) → Tame (option_map_or (λ answer. answered answer) o (change_on (name_space s) s.clock handle on))
  of_application handle on o =
      by_option o (λ answer. answered answer) (change_on (name_space s) s.clock handle on) of_answer
      (by_option (node_of_handle (name_space s) handle) (λ view. change_at (name_space s) s.clock handle on view) (refused faults.StaleInstance) (of_node handle on) (of_fault faults.StaleInstance))

  of_call : (handle : Handle) (on : Call) (sequencer : Option (List ℕ)) → Tame (effect_on (name_space s) s.clock handle on sequencer)
  of_call handle (calls.Close bytes) sequencer = of_closed handle (close_under (name_space s) handle (node_of_handle (name_space s) handle))
  of_call handle on sequencer = of_application handle on (answer_on (name_space s) handle on sequencer)

  of_handle : (on : Call) (sequencer : Option (List ℕ)) (o : Option Handle) → Tame (handle_effect (name_space s) s.clock on sequencer o)
  of_handle on sequencer None = of_fault faults.BadHandle
  of_handle on sequencer (Some handle) = of_call handle on sequencer

-- ---- creates

module _ (s : MasterState) (client number : ℕ) (opening : Open) where
  abbrev Tamed : Effect → Type 0
  Tamed effected = IsTame s client number (calls.Open opening) effected

  fault_of : (fault : Fault) → Tamed (refused fault)
  fault_of fault = of_fault s client number (calls.Open opening) fault

  -- of a handle that is given
  fair_handle : (handle : Handle) → IsOfCall client number handle → AreFair s client number (calls.Open opening) (Some (open_note handle (handle_bytes s.secret handle)))
  fair_handle handle own =
      one_fair s client number (calls.Open opening) (open_note handle (handle_bytes s.secret handle))
      (is_by_open s client number (calls.Open opening) (open_note handle (handle_bytes s.secret handle)) own)

  of_opened : (opened : Result Handle Fault) → ((handle : Handle) → opened ≡ Ok handle → IsOfCall client number handle) → Tamed (opened_effect (name_space s) opened)
  of_opened (Ok handle) own = record { refuses = λ fault h. absurd cc; notes = fair_handle handle (own handle refl) }
  of_opened (Err fault) own = fault_of fault

  of_made : (view : Node) (opened : Result Handle Fault) → ((handle : Handle) → opened ≡ Ok handle → IsOfCall client number handle) → Tamed (create_made (name_space s) opening view opened)
  of_made view (Ok handle) own =
      by_option s client number (calls.Open opening) (new_node_fault (name_space s) view) (λ fault. refused fault) (create_put (name_space s) opening view handle) fault_of
      (record { refuses = λ fault h. absurd cc; notes = fair_handle handle (own handle refl) })
  of_made view (Err fault) own = fault_of fault

  of_numbered : (view : Node) → Tamed (create_numbered (name_space s) (caller s client) number opening view)
  of_numbered view =
      let opened = new_handle (name_space s) (caller s client) number opening view in
      either s client number (calls.Open opening) (is_last s.next_instance) (refused faults.Exhausted) (create_made (name_space s) opening view opened) (fault_of faults.Exhausted)
      (of_made view opened (λ handle h. new_key s client number opening handle view h))

  of_permitted : (view : Node) → Tamed (create_permitted (name_space s) (caller s client) number opening view)
  of_permitted view =
      by_option s client number (calls.Open opening) (missing_right (name_space s) (caller s client) opening.mode view) (λ right. refused (faults.Denied right)) (create_numbered (name_space s) (caller s client) number opening view) (λ right. fault_of (faults.Denied right))
      (of_numbered view)

  of_kind : (create : Create) (above : Node) (kind : Kind) → Tamed (create_in (name_space s) (caller s client) number opening create above kind)
  of_kind create above File = fault_of (faults.WrongKind File)
  of_kind create above Directory =
      let view : Node = new_node s.next_instance create.node create.life (acls_of above create.acls) in
      either s client number (calls.Open opening) (may (name_space s) (caller s client) above rights.Write) (create_permitted (name_space s) (caller s client) number opening view) (refused (faults.Denied rights.Write)) (of_permitted view)
      (fault_of (faults.Denied rights.Write))

  of_above : (create : Create) (o : Option Node) → Tamed (create_under (name_space s) (caller s client) number opening create o)
  of_above create None = fault_of faults.NotFound
  of_above create (Some above) = of_kind create above above.kind

  of_new : (create : Create) → Tamed (create_new (name_space s) (caller s client) number opening create)
  of_new create =
      by_option s client number (calls.Open opening) (parent_of opening.name) (λ parent. create_under (name_space s) (caller s client) number opening create (get_node s.nodes parent)) (refused faults.NotFound)
      (λ parent. of_above create (get_node s.nodes parent)) (fault_of faults.NotFound)

  of_present : (disposition : Disposition) (view : Node) → Tamed (create_over (name_space s) (caller s client) number opening disposition view)
  of_present Must view = fault_of faults.Exists
  of_present May view = of_opened (open_present (name_space s) (caller s client) number opening view) (λ handle h. present_key s client number opening handle view h)

  of_create : (create : Create) → Tamed (create_effect (name_space s) (caller s client) number opening create)
  of_create create =
      by_option s client number (calls.Open opening) (get_node s.nodes opening.name) (λ view. create_over (name_space s) (caller s client) number opening create.disposition view) (create_new (name_space s) (caller s client) number opening create)
      (of_present create.disposition) (of_new create)

  of_tested : (create : Create) → Tamed (create_tested (name_space s) (caller s client) number opening create)
  of_tested create =
      by_option s client number (calls.Open opening) (create_fault opening create.node) (λ answer. answered answer) (create_effect (name_space s) (caller s client) number opening create) (of_answer s client number (calls.Open opening)) (of_create create)

  of_sequencer : (create : Create) (o : Option Fault) → Tamed (create_under_sequencer (name_space s) (caller s client) number opening create o)
  of_sequencer create None = of_tested create
  of_sequencer create (Some fault) = fault_of fault

  of_open : (sequencer : Option (List ℕ)) (o : Option Create) → Tamed (open_effect (name_space s) (caller s client) number opening sequencer o)
  of_open sequencer None = of_opened (plain_open (name_space s) (caller s client) number opening) (λ handle h. plain_key s client number opening handle h)
  of_open sequencer (Some create) =
      let fault = sequencer_fault (name_space s) sequencer in
      either s client number (calls.Open opening) (is_of_cell (name_space s) opening.name) (create_under_sequencer (name_space s) (caller s client) number opening create fault) (refused faults.OtherCell) (of_sequencer create fault)
      (fault_of faults.OtherCell)

-- ---- any call

pub tame : (s : MasterState) (client number : ℕ) (call : Call) (sequencer : Option (List ℕ)) → IsTame s client number call (effect (name_space s) (caller s client) s.clock number call sequencer)
unfolding effect
tame s client number (calls.Open opening) sequencer = of_open s client number opening sequencer opening.create
tame s client number call sequencer = of_handle s client number call call sequencer (read_handle s.secret (bytes_of call))

-- Of which shape is what a change does when its turn comes.
use Rattle.std.proofs.Common.{◌≡◌, ℕ, ◌+◌, List, Bool, true, false, cond, Option, Some, None, Result, Ok, Err, refl}
use Rattle.std.specs.Prelude.{◌||◌, is_none}
use Rattle.std.specs.Option.{option_map_or}
use Rattle.names_cell.specs.Text.{parent_of}
use Rattle.node_core.specs.declared.refusals.Fault.{Fault}
use Rattle.node_core.specs.declared.refusals.Fault.TheVariants as faults
use Rattle.node_core.specs.declared.nodes.Node.{Node}
use Rattle.node_core.specs.declared.views.Mod.{Mod}
use Rattle.node_core.specs.declared.views.Mod.TheVariants.{Put, Gone}
use Rattle.node_core.specs.declared.kinds.Kind.{Kind}
use Rattle.node_core.specs.declared.kinds.Kind.TheVariants.{File, Directory}
use Rattle.node_core.specs.declared.kinds.Right.TheVariants as rights
use Rattle.node_core.specs.Nodes.{get_node, has_children}
use Rattle.tags_cell.specs.Handles.{read_handle}
use Rattle.tags_cell.specs.declared.handles.Handle.{Handle}
use Rattle.tags_cell.specs.declared.messages.calls.Open.{Open}
use Rattle.tags_cell.specs.declared.messages.calls.Create.{Create}
use Rattle.tags_cell.specs.declared.messages.calls.Disposition.{Disposition}
use Rattle.tags_cell.specs.declared.messages.calls.Disposition.TheVariants.{May, Must}
use Rattle.tags_cell.specs.declared.messages.calls.Call.{Call}
use Rattle.tags_cell.specs.declared.messages.calls.Call.TheVariants as calls
use Rattle.tags_cell.specs.declared.messages.outs.CallResult.{CallResult}
use Rattle.tags_cell.specs.declared.messages.outs.CallResult.TheVariants as results
use Rattle.lock_core.specs.declared.claims.Claim.{Claim}
use Rattle.lock_core.specs.declared.turns.Turn.{Turn}
use Rattle.lock_core.specs.declared.turns.Acquired.{Acquired}
use Rattle.lock_core.specs.declared.turns.Acquired.TheVariants as asked
use Rattle.lock_core.specs.State.{LockState}
use Rattle.lock_core.specs.Turns.{tried, acquired, released, closed_by}
use Rattle.master_state.specs.declared.updates.Change.{Change}
use Rattle.master_state.specs.declared.updates.LockPut.{LockPut}
use Rattle.master_parts.specs.declared.handles.HandleNote.{HandleNote}
use Rattle.master_parts.specs.Claims.{owner_of, claim_of}
use Rattle.master_state.specs.NameSpace.{name_space, caller}
use Rattle.master_state.specs.State.{MasterState}
use Rattle.master_state.specs.Lookups.{may, missing_right, is_of_cell, sequencer_fault, lock_under, holds_lock, node_of_handle, new_handle, open_present, plain_open, opened_answer, opened_note, answer_on}
use Rattle.master_parts.specs.Calls.{create_fault, bytes_of}
use Rattle.master_parts.specs.Keys.{key_of}
use Rattle.cell_core.specs.declared.effects.Effect.{Effect}
use Rattle.cell_core.specs.declared.effects.Leave.{Leave}
use Rattle.cell_core.specs.declared.effects.Locking.TheVariants as lockings
use Rattle.cell_core.specs.Effect.{answered, closed_state, refused, changes_to, is_last, new_node_fault, content_fault, lock_fault, opened_effect, new_node, acls_of, create_put, create_made, create_numbered, create_permitted, create_in, create_under, create_new, create_over, create_effect, create_tested, create_under_sequencer, open_effect, lock_put, lock_taken, acquired_by, acquire_by, try_by, release_by, close_by, close_under, generation_fits, with_content, with_acls, put_at, deleted, delete_at, change_at, change_on, effect_on, handle_effect, effect}

-- it ends with an answer, changes the map beside that, deletes a node with its lock, takes a lock, waits for it, or leaves it
pub data Shape : Type 0 where
  Ends : (note : Option HandleNote) (answer : CallResult) → Shape
  Applies : (note : Option HandleNote) (change : Change) (answer : CallResult) → Shape
  Deletes : (change : Change) (instance : ℕ) (waiters : List Claim) (answer : CallResult) → Shape
  Locks : (put : LockPut) (claim : Claim) (answer : CallResult) → Shape
  Awaits : (put : LockPut) → Shape
  Leaves : (note : Option HandleNote) (leave : Leave) (answer : CallResult) → Shape

abbrev pub effect_by : Shape → Effect
effect_by (Ends note answer) = record { note = note; change = None; locking = lockings.Nothing; answer = Some answer }
effect_by (Applies note change answer) = record { note = note; change = Some change; locking = lockings.Nothing; answer = Some answer }
effect_by (Deletes change instance waiters answer) = record { note = None; change = Some change; locking = lockings.Goes instance waiters; answer = Some answer }
effect_by (Locks put claim answer) = record { note = None; change = None; locking = lockings.Takes put claim; answer = Some answer }
effect_by (Awaits put) = record { note = None; change = None; locking = lockings.Waits put; answer = None }
effect_by (Leaves note leave answer) = record { note = note; change = None; locking = lockings.Leaves leave; answer = Some answer }

abbrev pub HasShape : Effect → Type 0
HasShape effected = (shape : Shape) × (effected ≡ effect_by shape)

-- ---- by what is tested

of_answer : (answer : CallResult) → HasShape (answered answer)
of_answer answer = (Ends None answer, refl)

of_fault : (fault : Fault) → HasShape (refused fault)
of_fault fault = (Ends None (results.Refused fault), refl)

of_change : (change : Mod) (next : ℕ) (answer : CallResult) → HasShape (changes_to change next answer)
of_change change next answer = (Applies None (record { change = change; next_instance = next }) answer, refl)

either : (b : Bool) (x y : Effect) → HasShape x → HasShape y → HasShape (cond b x y)
either true x y h k = h
either false x y h k = k

by_option : {X : Type 0} (o : Option X) (f : X → Effect) (y : Effect) → ((x : X) → HasShape (f x)) → HasShape y → HasShape (option_map_or f o y)
by_option None f y h k = k
by_option (Some x) f y h k = h x

module _ (s : MasterState) where
  -- ---- creates

  of_opened : (opened : Result Handle Fault) → HasShape (opened_effect (name_space s) opened)
  of_opened opened = (Ends (opened_note (name_space s) opened) (opened_answer (name_space s) opened), refl)

  of_made : (opening : Open) (node : Node) (opened : Result Handle Fault) → HasShape (create_made (name_space s) opening node opened)
  of_made opening node (Ok handle) =
      by_option (new_node_fault (name_space s) node) (λ fault. refused fault) (create_put (name_space s) opening node handle) of_fault
      (Applies (opened_note (name_space s) (Ok handle)) (record { change = Put opening.name node; next_instance = s.next_instance + 1 }) (opened_answer (name_space s) (Ok handle)), refl)
  of_made opening node (Err fault) = of_fault fault

  of_numbered : (client number : ℕ) (opening : Open) (node : Node) → HasShape (create_numbered (name_space s) (caller s client) number opening node)
  of_numbered client number opening node =
      let opened = new_handle (name_space s) (caller s client) number opening node in
      either (is_last s.next_instance) (refused faults.Exhausted) (create_made (name_space s) opening node opened) (of_fault faults.Exhausted) (of_made opening node opened)

  of_permitted : (client number : ℕ) (opening : Open) (node : Node) → HasShape (create_permitted (name_space s) (caller s client) number opening node)
  of_permitted client number opening node =
      by_option (missing_right (name_space s) (caller s client) opening.mode node) (λ right. refused (faults.Denied right)) (create_numbered (name_space s) (caller s client) number opening node) (λ right. of_fault (faults.Denied right))
      (of_numbered client number opening node)

  of_kind : (client number : ℕ) (opening : Open) (create : Create) (above : Node) (kind : Kind) → HasShape (create_in (name_space s) (caller s client) number opening create above kind)
  of_kind client number opening create above File = of_fault (faults.WrongKind File)
  of_kind client number opening create above Directory =
      let node : Node = new_node s.next_instance create.node create.life (acls_of above create.acls) in
      either (may (name_space s) (caller s client) above rights.Write) (create_permitted (name_space s) (caller s client) number opening node) (refused (faults.Denied rights.Write)) (of_permitted client number opening node)
      (of_fault (faults.Denied rights.Write))

  of_above : (client number : ℕ) (opening : Open) (create : Create) (o : Option Node) → HasShape (create_under (name_space s) (caller s client) number opening create o)
  of_above client number opening create None = of_fault faults.NotFound
  of_above client number opening create (Some above) = of_kind client number opening create above above.kind

  of_new : (client number : ℕ) (opening : Open) (create : Create) → HasShape (create_new (name_space s) (caller s client) number opening create)
  of_new client number opening create =
      by_option (parent_of opening.name) (λ parent. create_under (name_space s) (caller s client) number opening create (get_node s.nodes parent)) (refused faults.NotFound)
      (λ parent. of_above client number opening create (get_node s.nodes parent)) (of_fault faults.NotFound)

  of_present : (client number : ℕ) (opening : Open) (disposition : Disposition) (node : Node) → HasShape (create_over (name_space s) (caller s client) number opening disposition node)
  of_present client number opening Must node = of_fault faults.Exists
  of_present client number opening May node = of_opened (open_present (name_space s) (caller s client) number opening node)

  of_create : (client number : ℕ) (opening : Open) (create : Create) → HasShape (create_effect (name_space s) (caller s client) number opening create)
  of_create client number opening create =
      by_option (get_node s.nodes opening.name) (λ node. create_over (name_space s) (caller s client) number opening create.disposition node) (create_new (name_space s) (caller s client) number opening create)
      (of_present client number opening create.disposition) (of_new client number opening create)

  of_tested : (client number : ℕ) (opening : Open) (create : Create) → HasShape (create_tested (name_space s) (caller s client) number opening create)
  of_tested client number opening create =
      by_option (create_fault opening create.node) (λ answer. answered answer) (create_effect (name_space s) (caller s client) number opening create) of_answer (of_create client number opening create)

  of_sequencer : (client number : ℕ) (opening : Open) (create : Create) (o : Option Fault) → HasShape (create_under_sequencer (name_space s) (caller s client) number opening create o)
  of_sequencer client number opening create None = of_tested client number opening create
  of_sequencer client number opening create (Some fault) = of_fault fault

  of_open : (client number : ℕ) (opening : Open) (sequencer : Option (List ℕ)) (o : Option Create) → HasShape (open_effect (name_space s) (caller s client) number opening sequencer o)
  of_open client number opening sequencer None = of_opened (plain_open (name_space s) (caller s client) number opening)
  of_open client number opening sequencer (Some create) =
      let fault = sequencer_fault (name_space s) sequencer in
      either (is_of_cell (name_space s) opening.name) (create_under_sequencer (name_space s) (caller s client) number opening create fault) (refused faults.OtherCell) (of_sequencer client number opening create fault)
      (of_fault faults.OtherCell)

  -- ---- locks

  of_held : (handle : Handle) (claim : Claim) (asked : Acquired) → HasShape (acquired_by handle claim asked)
  of_held handle claim (asked.Held lock) = (Locks (lock_put handle lock) claim results.Done, refl)
  of_held handle claim (asked.Waits lock) = (Awaits (lock_put handle lock), refl)

  of_acquired : (handle : Handle) (claim : Claim) (room : Option Fault) (r : Result Acquired Fault) → HasShape (acquire_by handle claim room r)
  of_acquired handle claim room (Ok asked) = by_option room (λ fault. refused fault) (acquired_by handle claim asked) of_fault (of_held handle claim asked)
  of_acquired handle claim room (Err fault) = of_fault fault

  of_tried : (handle : Handle) (claim : Claim) (room : Option Fault) (r : Result LockState Fault) → HasShape (try_by handle claim room r)
  of_tried handle claim room (Ok lock) = by_option room (λ fault. refused fault) (lock_taken handle claim lock) of_fault (Locks (lock_put handle lock) claim results.Done, refl)
  of_tried handle claim room (Err fault) = of_fault fault

  of_released : (handle : Handle) (r : Result Turn Fault) → HasShape (release_by handle r)
  of_released handle (Ok turn) = (Leaves None (record { name = handle.name; instance = handle.instance; held = true; turn = turn }) results.Done, refl)
  of_released handle (Err fault) = of_fault fault

  of_left : (handle : Handle) (note : Option HandleNote) (o : Option Turn) → HasShape (record { note = note; change = None; locking = close_by (name_space s) handle o; answer = Some results.Closed })
  of_left handle note None = (Ends note results.Closed, refl)
  of_left handle note (Some turn) = (Leaves note (record { name = handle.name; instance = handle.instance; held = holds_lock (name_space s) handle; turn = turn }) results.Closed, refl)

  of_closed : (handle : Handle) (note : Option HandleNote) (o : Option Node) → HasShape (record { note = note; change = None; locking = close_under (name_space s) handle o; answer = Some results.Closed })
  of_closed handle note None = (Ends note results.Closed, refl)
  of_closed handle note (Some node) = of_left handle note (closed_by (lock_under (name_space s) handle) (owner_of handle))

  -- ---- a change of a node that stands

  of_put : (handle : Handle) (present : ℕ) (wanted : Option ℕ) (room : Option Fault) (node : Node) → HasShape (put_at (name_space s) handle present wanted room node)
  of_put handle present wanted room node =
      let changed : Effect = changes_to (Put handle.name node) s.next_instance results.Done in
      let written : Effect = option_map_or (λ fault. refused fault) room changed in
      either (generation_fits wanted present) (cond (is_last present) (refused faults.Exhausted) written) (refused (faults.WrongGeneration present))
      (either (is_last present) (refused faults.Exhausted) written (of_fault faults.Exhausted) (by_option room (λ fault. refused fault) changed of_fault (of_change (Put handle.name node) s.next_instance results.Done)))
      (of_fault (faults.WrongGeneration present))

  of_deleted : (handle : Handle) → HasShape (deleted (name_space s) handle)
  of_deleted handle = (Deletes (record { change = Gone handle.name; next_instance = s.next_instance }) handle.instance (lock_under (name_space s) handle).waiters results.Done, refl)

  of_delete : (handle : Handle) → HasShape (delete_at (name_space s) handle)
  of_delete handle =
      either (has_children s.nodes handle.name || is_none (parent_of handle.name)) (refused faults.NotEmpty) (deleted (name_space s) handle) (of_fault faults.NotEmpty) (of_deleted handle)

  of_node : (handle : Handle) (call : Call) (node : Node) → HasShape (change_at (name_space s) s.clock handle call node)
  of_node handle (calls.Set bytes content generation) node = of_put handle node.content_generation generation (content_fault (name_space s) node content) (with_content node content)
  of_node handle (calls.SetAcl bytes acls generation) node = of_put handle node.acl_generation generation None (with_acls node acls)
  of_node handle (calls.Delete bytes) node = of_delete handle
  of_node handle (calls.Acquire bytes mode) node = of_acquired handle (claim_of handle mode) (lock_fault (name_space s) handle.client) (acquired (lock_under (name_space s) handle) (claim_of handle mode))
  of_node handle (calls.TryAcquire bytes mode) node = of_tried handle (claim_of handle mode) (lock_fault (name_space s) handle.client) (tried (lock_under (name_space s) handle) (claim_of handle mode) s.clock)
  of_node handle (calls.Release bytes) node = of_released handle (released (lock_under (name_space s) handle) (owner_of handle))
  of_node handle (calls.Open opening) node = of_fault faults.BadHandle
  of_node handle (calls.Close bytes) node = of_fault faults.BadHandle
  of_node handle (calls.Read bytes) node = of_fault faults.BadHandle
  of_node handle (calls.Stat bytes) node = of_fault faults.BadHandle
  of_node handle (calls.List bytes) node = of_fault faults.BadHandle
  of_node handle (calls.GetSequencer bytes) node = of_fault faults.BadHandle
  of_node handle (calls.SetSequencer bytes) node = of_fault faults.BadHandle
  of_node handle (calls.CheckSequencer bytes) node = of_fault faults.BadHandle
  of_node handle calls.Leave node = of_fault faults.BadHandle

  -- ---- any call

  of_application : (handle : Handle) (call : Call) (o : Option CallResult) → HasShape (option_map_or (λ answer. answered answer) o (change_on (name_space s) s.clock handle call))
  of_application handle call o =
      by_option o (λ answer. answered answer) (change_on (name_space s) s.clock handle call) of_answer
      (by_option (node_of_handle (name_space s) handle) (λ node. change_at (name_space s) s.clock handle call node) (refused faults.StaleInstance) (of_node handle call) (of_fault faults.StaleInstance))

  of_call : (handle : Handle) (call : Call) (sequencer : Option (List ℕ)) → HasShape (effect_on (name_space s) s.clock handle call sequencer)
  of_call handle (calls.Close bytes) sequencer = of_closed handle (Some (record { key = key_of handle; state = closed_state (name_space s) handle })) (node_of_handle (name_space s) handle)
  of_call handle call sequencer = of_application handle call (answer_on (name_space s) handle call sequencer)

  of_handle : (call : Call) (sequencer : Option (List ℕ)) (o : Option Handle) → HasShape (handle_effect (name_space s) s.clock call sequencer o)
  of_handle call sequencer None = of_fault faults.BadHandle
  of_handle call sequencer (Some handle) = of_call handle call sequencer

  pub shape_of : (client number : ℕ) (call : Call) (sequencer : Option (List ℕ)) → HasShape (effect (name_space s) (caller s client) s.clock number call sequencer)
  unfolding effect
  shape_of client number (calls.Open opening) sequencer = of_open client number opening sequencer opening.create
  shape_of client number call sequencer = of_handle call sequencer (read_handle s.secret (bytes_of call))

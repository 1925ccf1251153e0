-- What a call changes when its turn comes is what it says that it touches.
use Rattle.std.proofs.Common.{◌≡◌, ℕ, List, [], ◌∷◌, Bool, true, false, cond, Option, Some, None, Result, Ok, Err, refl, sym, ap, subst}
use Rattle.std.specs.Prelude.{◌||◌, ◌==◌, is_none}
use Rattle.std.specs.Option.{option_map, option_map_or, option_and_then}
use Rattle.names_cell.specs.Text.{parent_of}
use Rattle.node_core.specs.declared.refusals.Fault.{Fault}
use Rattle.node_core.specs.declared.refusals.Fault.TheVariants as faults
use Rattle.node_core.specs.declared.nodes.Node.{Node}
use Rattle.node_core.specs.declared.views.Mod.TheVariants.{Put}
use Rattle.node_core.specs.declared.kinds.Kind.{Kind}
use Rattle.node_core.specs.declared.kinds.Kind.TheVariants.{File, Directory}
use Rattle.node_core.specs.declared.kinds.Right.TheVariants as rights
use Rattle.node_core.specs.Nodes.{Nodes, get_node, has_children, with_parent, touched}
use Rattle.tags_cell.specs.Handles.{read_handle}
use Rattle.tags_cell.specs.declared.handles.Handle.{Handle}
use Rattle.tags_cell.specs.declared.messages.calls.Open.{Open}
use Rattle.tags_cell.specs.declared.messages.calls.Create.{Create}
use Rattle.tags_cell.specs.declared.messages.calls.Disposition.{Disposition}
use Rattle.tags_cell.specs.declared.messages.calls.Disposition.TheVariants.{May, Must}
use Rattle.tags_cell.specs.declared.messages.calls.Call.{Call}
use Rattle.tags_cell.specs.declared.messages.calls.Call.TheVariants as calls
use Rattle.tags_cell.specs.declared.messages.outs.CallResult.{CallResult}
use Rattle.tags_cell.specs.declared.messages.outs.CallResult.TheVariants as results
use Rattle.lock_core.specs.declared.claims.Claim.{Claim}
use Rattle.lock_core.specs.declared.turns.Turn.{Turn}
use Rattle.lock_core.specs.declared.turns.Acquired.{Acquired}
use Rattle.lock_core.specs.declared.turns.Acquired.TheVariants as asked
use Rattle.lock_core.specs.State.{LockState}
use Rattle.lock_core.specs.Turns.{tried, acquired, released}
use Rattle.master_state.specs.declared.updates.Change.{Change}
use Rattle.master_parts.specs.Claims.{owner_of, claim_of}
use Rattle.master_state.specs.NameSpace.{name_space, caller}
use Rattle.master_state.specs.State.{MasterState}
use Rattle.master_state.specs.Lookups.{may, missing_right, is_of_cell, sequencer_fault, lock_under, node_of_handle, new_handle, answer_on}
use Rattle.master_parts.specs.Calls.{create_fault, bytes_of}
use Rattle.cell_core.specs.declared.asking.TouchedNames.{TouchedNames}
use Rattle.cell_core.specs.declared.asking.TouchedNames.TheVariants.{Alone, WithParent}
use Rattle.cell_core.specs.Step.{touched_by, names_of}
use Rattle.cell_core.specs.Names.{call_touched}
use Rattle.cell_core.specs.declared.effects.Effect.{Effect}
use Rattle.cell_core.specs.Effect.{answered, refused, changes_to, is_last, new_node_fault, content_fault, lock_fault, unless, new_node, acls_of, create_put, create_made, create_numbered, create_permitted, create_in, create_under, create_new, create_over, create_effect, create_tested, create_under_sequencer, open_effect, lock_taken, acquired_by, acquire_by, try_by, release_by, generation_fits, with_content, with_acls, put_at, deleted, delete_at, change_at, change_on, effect_on, handle_effect, effect}

-- a change, if there is one, touches these names of the map
abbrev IsOn : Nodes → Option TouchedNames → Option Change → Type 0
IsOn nodes named None = Unit {0}
IsOn nodes named (Some change) = names_of named ≡ touched nodes change.change

-- by the node of a handle, where its instance is there
of_handle : (o : Option Node) (instance : ℕ) (node : Node) → option_map_or (λ (v : Node). cond (v.instance == instance) (Some v) None) o None ≡ Some node → o ≡ Some node
of_handle None instance node h = cc
of_handle (Some v) instance node h =
    (elim (v.instance == instance) as (λ b. ◌≡◌ {A = Option Node} (cond b (Some v) None) (Some node) → ◌≡◌ {A = Option Node} (Some v) (Some node)) [ true ↦ (λ k. k) | false ↦ (λ k. cc) ]) h

module _ (s : MasterState) where
  abbrev Touches : Option TouchedNames → Effect → Type 0
  Touches named effected = IsOn s.nodes named effected.change

  either : (named : Option TouchedNames) (b : Bool) (x y : Effect) → Touches named x → Touches named y → Touches named (cond b x y)
  either named true x y h k = h
  either named false x y h k = k

  by_option : {X : Type 0} (named : Option TouchedNames) (o : Option X) (f : X → Effect) (y : Effect) → ((x : X) → Touches named (f x)) → Touches named y → Touches named (option_map_or f o y)
  by_option named None f y h k = k
  by_option named (Some x) f y h k = h x

  by_found : {X : Type 0} (named : Option TouchedNames) (o : Option X) (f : X → Effect) (y : Effect) → ((x : X) → o ≡ Some x → Touches named (f x)) → (o ≡ None → Touches named y) → Touches named (option_map_or f o y)
  by_found named None f y h k = k refl
  by_found named (Some x) f y h k = h x refl

  -- ---- a create

  -- a node that comes
  comes : (name : List ℕ) (node : Node) → get_node s.nodes name ≡ None → with_parent name ≡ touched s.nodes (Put name node)
  comes name node absent = sym (ap (λ (o : Option Node). cond (is_none o) (with_parent name) (name ∷ [])) absent)

  -- a node that changes
  changes : (name : List ℕ) (old node : Node) → get_node s.nodes name ≡ Some old → name ∷ [] ≡ touched s.nodes (Put name node)
  changes name old node here = sym (ap (λ (o : Option Node). cond (is_none o) (with_parent name) (name ∷ [])) here)

  module _ (opening : Open) (absent : get_node s.nodes opening.name ≡ None) where
    abbrev new : Option TouchedNames
    new = Some (WithParent opening.name)

    made_touches : (node : Node) (r : Result Handle Fault) → Touches new (create_made (name_space s) opening node r)
    made_touches node (Ok handle) =
        by_option new (new_node_fault (name_space s) node) (λ fault. refused fault) (create_put (name_space s) opening node handle) (λ fault. tt) (comes opening.name node absent)
    made_touches node (Err fault) = tt

    numbered_touches : (client number : ℕ) (node : Node) → Touches new (create_numbered (name_space s) (caller s client) number opening node)
    numbered_touches client number node =
        either new (is_last s.next_instance) (refused faults.Exhausted) (create_made (name_space s) opening node (new_handle (name_space s) (caller s client) number opening node)) tt (made_touches node (new_handle (name_space s) (caller s client) number opening node))

    permitted_touches : (client number : ℕ) (node : Node) → Touches new (create_permitted (name_space s) (caller s client) number opening node)
    permitted_touches client number node =
        by_option new (missing_right (name_space s) (caller s client) opening.mode node) (λ right. refused (faults.Denied right)) (create_numbered (name_space s) (caller s client) number opening node) (λ right. tt) (numbered_touches client number node)

    in_touches : (client number : ℕ) (create : Create) (above : Node) (kind : Kind) → Touches new (create_in (name_space s) (caller s client) number opening create above kind)
    in_touches client number create above File = tt
    in_touches client number create above Directory =
        let node : Node = new_node s.next_instance create.node create.life (acls_of above create.acls) in
        either new (may (name_space s) (caller s client) above rights.Write) (create_permitted (name_space s) (caller s client) number opening node) (refused (faults.Denied rights.Write)) (permitted_touches client number node) tt

    under_touches : (client number : ℕ) (create : Create) (o : Option Node) → Touches new (create_under (name_space s) (caller s client) number opening create o)
    under_touches client number create None = tt
    under_touches client number create (Some above) = in_touches client number create above above.kind

    new_touches : (client number : ℕ) (create : Create) → Touches new (create_new (name_space s) (caller s client) number opening create)
    new_touches client number create =
        by_option new (parent_of opening.name) (λ parent. create_under (name_space s) (caller s client) number opening create (get_node s.nodes parent)) (refused faults.NotFound)
        (λ parent. under_touches client number create (get_node s.nodes parent)) tt

  over_touches : (client number : ℕ) (opening : Open) (disposition : Disposition) (node : Node) → Touches (Some (WithParent opening.name)) (create_over (name_space s) (caller s client) number opening disposition node)
  over_touches client number opening Must node = tt
  over_touches client number opening May node = tt

  tested_touches : (client number : ℕ) (opening : Open) (create : Create) → Touches (Some (WithParent opening.name)) (create_tested (name_space s) (caller s client) number opening create)
  tested_touches client number opening create =
      let new : Option TouchedNames = Some (WithParent opening.name) in
      by_option new (create_fault opening create.node) (λ answer. answered answer) (create_effect (name_space s) (caller s client) number opening create) (λ answer. tt)
      (by_found new (get_node s.nodes opening.name) (λ node. create_over (name_space s) (caller s client) number opening create.disposition node) (create_new (name_space s) (caller s client) number opening create)
      (λ node here. over_touches client number opening create.disposition node) (λ absent. new_touches opening absent client number create))

  sequencer_touches : (client number : ℕ) (opening : Open) (create : Create) (o : Option Fault) → Touches (Some (WithParent opening.name)) (create_under_sequencer (name_space s) (caller s client) number opening create o)
  sequencer_touches client number opening create None = tested_touches client number opening create
  sequencer_touches client number opening create (Some fault) = tt

  open_touches : (client number : ℕ) (opening : Open) (sequencer : Option (List ℕ)) (o : Option Create) → Touches (option_map (λ create. WithParent opening.name) o) (open_effect (name_space s) (caller s client) number opening sequencer o)
  open_touches client number opening sequencer None = tt
  open_touches client number opening sequencer (Some create) =
      let fault = sequencer_fault (name_space s) sequencer in
      either (Some (WithParent opening.name)) (is_of_cell (name_space s) opening.name) (create_under_sequencer (name_space s) (caller s client) number opening create fault) (refused faults.OtherCell)
      (sequencer_touches client number opening create fault) tt

  -- ---- a change of a node that stands

  put_touches : (handle : Handle) (present : ℕ) (wanted : Option ℕ) (room : Option Fault) (old node : Node) → get_node s.nodes handle.name ≡ Some old → Touches (Some (Alone handle.name)) (put_at (name_space s) handle present wanted room node)
  put_touches handle present wanted room old node here =
      let changed : Effect = changes_to (Put handle.name node) s.next_instance results.Done in
      let written : Effect = unless room changed in
      either (Some (Alone handle.name)) (generation_fits wanted present) (cond (is_last present) (refused faults.Exhausted) written) (refused (faults.WrongGeneration present))
      (either (Some (Alone handle.name)) (is_last present) (refused faults.Exhausted) written tt (by_option (Some (Alone handle.name)) room (λ fault. refused fault) changed (λ fault. tt) (changes handle.name old node here))) tt

  delete_touches : (handle : Handle) → Touches (Some (WithParent handle.name)) (delete_at (name_space s) handle)
  delete_touches handle =
      either (Some (WithParent handle.name)) (has_children s.nodes handle.name || is_none (parent_of handle.name)) (refused faults.NotEmpty) (deleted (name_space s) handle) tt refl

  -- ---- a lock

  asked_touches : (named : Option TouchedNames) (handle : Handle) (claim : Claim) (given : Acquired) → Touches named (acquired_by handle claim given)
  asked_touches named handle claim (asked.Held lock) = tt
  asked_touches named handle claim (asked.Waits lock) = tt

  acquired_touches : (named : Option TouchedNames) (handle : Handle) (claim : Claim) (room : Option Fault) (r : Result Acquired Fault) → Touches named (acquire_by handle claim room r)
  acquired_touches named handle claim room (Ok given) = by_option named room (λ fault. refused fault) (acquired_by handle claim given) (λ fault. tt) (asked_touches named handle claim given)
  acquired_touches named handle claim room (Err fault) = tt

  tried_touches : (named : Option TouchedNames) (handle : Handle) (claim : Claim) (room : Option Fault) (r : Result LockState Fault) → Touches named (try_by handle claim room r)
  tried_touches named handle claim room (Ok lock) = by_option named room (λ fault. refused fault) (lock_taken handle claim lock) (λ fault. tt) tt
  tried_touches named handle claim room (Err fault) = tt

  released_touches : (named : Option TouchedNames) (handle : Handle) (r : Result Turn Fault) → Touches named (release_by handle r)
  released_touches named handle (Ok turn) = tt
  released_touches named handle (Err fault) = tt

  -- ---- any call

  node_touches : (handle : Handle) (call : Call) (node : Node) → get_node s.nodes handle.name ≡ Some node → Touches (touched_by handle call) (change_at (name_space s) s.clock handle call node)
  node_touches handle (calls.Set bytes content generation) node here = put_touches handle node.content_generation generation (content_fault (name_space s) node content) node (with_content node content) here
  node_touches handle (calls.SetAcl bytes acls generation) node here = put_touches handle node.acl_generation generation None node (with_acls node acls) here
  node_touches handle (calls.Delete bytes) node here = delete_touches handle
  node_touches handle (calls.Acquire bytes mode) node here = acquired_touches None handle (claim_of handle mode) (lock_fault (name_space s) handle.client) (acquired (lock_under (name_space s) handle) (claim_of handle mode))
  node_touches handle (calls.TryAcquire bytes mode) node here = tried_touches None handle (claim_of handle mode) (lock_fault (name_space s) handle.client) (tried (lock_under (name_space s) handle) (claim_of handle mode) s.clock)
  node_touches handle (calls.Release bytes) node here = released_touches None handle (released (lock_under (name_space s) handle) (owner_of handle))
  node_touches handle (calls.Open opening) node here = tt
  node_touches handle (calls.Close bytes) node here = tt
  node_touches handle (calls.Read bytes) node here = tt
  node_touches handle (calls.Stat bytes) node here = tt
  node_touches handle (calls.List bytes) node here = tt
  node_touches handle (calls.GetSequencer bytes) node here = tt
  node_touches handle (calls.SetSequencer bytes) node here = tt
  node_touches handle (calls.CheckSequencer bytes) node here = tt
  node_touches handle calls.Leave node here = tt

  -- what would be answered at once changes nothing
  answered_touches : (handle : Handle) (call : Call) (o : Option CallResult) → Touches (touched_by handle call) (option_map_or (λ answer. answered answer) o (change_on (name_space s) s.clock handle call))
  answered_touches handle call o =
      by_option (touched_by handle call) o (λ answer. answered answer) (change_on (name_space s) s.clock handle call) (λ answer. tt)
      (by_found (touched_by handle call) (node_of_handle (name_space s) handle) (λ node. change_at (name_space s) s.clock handle call node) (refused faults.StaleInstance)
      (λ node is. node_touches handle call node (of_handle (get_node s.nodes handle.name) handle.instance node is)) (λ none. tt))

  call_touches : (handle : Handle) (call : Call) (sequencer : Option (List ℕ)) → Touches (touched_by handle call) (effect_on (name_space s) s.clock handle call sequencer)
  call_touches handle (calls.Close bytes) sequencer = tt
  call_touches handle call sequencer = answered_touches handle call (answer_on (name_space s) handle call sequencer)

  handle_touches : (call : Call) (sequencer : Option (List ℕ)) (o : Option Handle) → Touches (option_and_then (λ handle. touched_by handle call) o) (handle_effect (name_space s) s.clock call sequencer o)
  handle_touches call sequencer None = tt
  handle_touches call sequencer (Some handle) = call_touches handle call sequencer

  effect_touches : (client number : ℕ) (call : Call) (sequencer : Option (List ℕ)) → Touches (call_touched s.secret call) (effect (name_space s) (caller s client) s.clock number call sequencer)
  unfolding effect
  effect_touches client number (calls.Open opening) sequencer = open_touches client number opening sequencer opening.create
  effect_touches client number call sequencer = handle_touches call sequencer (read_handle s.secret (bytes_of call))

-- a change that a call makes touches what the call says
pub change_is_touched : (s : MasterState) (client number : ℕ) (call : Call) (sequencer : Option (List ℕ)) (change : Change) → (effect (name_space s) (caller s client) s.clock number call sequencer).change ≡ Some change → names_of (call_touched s.secret call) ≡ touched s.nodes change.change
change_is_touched s client number call sequencer change made =
    let P : Option Change → Type 0 = IsOn s.nodes (call_touched s.secret call) in
    subst P made (effect_touches s client number call sequencer)

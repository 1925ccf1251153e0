-- What an effect does to locks: the generation of a lock that changes doesn't fall, and rises where the lock goes from free to held; and a lock that goes is of a node that goes.
use Rattle.std.proofs.Common.{◌≡◌, ℕ, List, [], Bool, true, false, cond, Option, Some, None, Result, Ok, Err, refl}
use Rattle.std.specs.Prelude.{◌||◌, is_none}
use Rattle.std.specs.Option.{option_map_or}
use Rattle.names_cell.specs.Text.{parent_of}
use Rattle.node_core.specs.declared.refusals.Fault.{Fault}
use Rattle.node_core.specs.declared.refusals.Fault.TheVariants as faults
use Rattle.node_core.specs.declared.kinds.Kind.{Kind}
use Rattle.node_core.specs.declared.kinds.Kind.TheVariants as kinds
use Rattle.node_core.specs.declared.kinds.Right.{Right}
use Rattle.node_core.specs.declared.kinds.Right.TheVariants as rights
use Rattle.node_core.specs.declared.nodes.Node.{Node}
use Rattle.node_core.specs.declared.views.Mod.{Mod}
use Rattle.node_core.specs.declared.views.Mod.TheVariants.{Put, Gone}
use Rattle.node_core.specs.Nodes.{get_node, has_children}
use Rattle.tags_cell.specs.Handles.{read_handle}
use Rattle.tags_cell.specs.declared.handles.Handle.{Handle}
use Rattle.tags_cell.specs.declared.messages.calls.Open.{Open}
use Rattle.tags_cell.specs.declared.messages.calls.Create.{Create}
use Rattle.tags_cell.specs.declared.messages.calls.Disposition.{Disposition}
use Rattle.tags_cell.specs.declared.messages.calls.Disposition.TheVariants.{May, Must}
use Rattle.tags_cell.specs.declared.messages.calls.Call.{Call}
use Rattle.tags_cell.specs.declared.messages.calls.Call.TheVariants as calls
use Rattle.tags_cell.specs.declared.messages.outs.CallResult.{CallResult}
use Rattle.lock_core.specs.declared.claims.Claim.{Claim}
use Rattle.lock_core.specs.declared.turns.Acquired.{Acquired}
use Rattle.lock_core.specs.declared.turns.Acquired.TheVariants as asked
use Rattle.lock_core.specs.declared.turns.Turn.{Turn}
use Rattle.lock_core.specs.State.{LockState}
use Rattle.lock_core.specs.Turns.{tried, acquired, released, closed_by}
use Rattle.lock_core.specs.Locks.{lock_at}
use Rattle.master_state.specs.declared.updates.Change.{Change}
use Rattle.master_parts.specs.Claims.{owner_of, claim_of}
use Rattle.master_state.specs.NameSpace.{name_space, caller}
use Rattle.master_state.specs.State.{MasterState}
use Rattle.master_state.specs.Lookups.{missing_right, node_of_handle, new_handle, sequencer_fault, lock_under, answer_on, is_of_cell, may}
use Rattle.master_parts.specs.Calls.{create_fault, bytes_of}
use Rattle.tags_cell.specs.declared.messages.outs.CallResult.TheVariants as results
use Rattle.cell_core.specs.declared.effects.Effect.{Effect}
use Rattle.cell_core.specs.declared.effects.Locking.{Locking}
use Rattle.cell_core.specs.declared.effects.Locking.TheVariants.{Nothing, Takes, Waits, Leaves, Goes}
use Rattle.cell_core.specs.Effect.{answered, refused, deleted, create_made, create_numbered, create_permitted, create_in, create_under, create_new, create_over, create_effect, create_under_sequencer, open_effect, generation_fits, is_last, put_at, acquire_by, try_by, release_by, close_by, close_under, change_at, change_on, effect_on, handle_effect, effect, new_node, acls_of, with_content, with_acls, new_node_fault, content_fault, lock_fault, create_put, changes_to}
use Rattle.world_cell.proofs.LocksRise.{RisesTo, RisesBy, RisesIf, RisesWhere, rises_tried, rises_acquired, rises_released, rises_closed}

abbrev pub IsGone : Mod → Type 0
IsGone (Put name view) = ⊥
IsGone (Gone name) = Unit {0}

-- a node goes
abbrev pub LetsNodeGo : Option Change → Type 0
LetsNodeGo None = ⊥
LetsNodeGo (Some change) = IsGone change.change

abbrev pub RaisesIn : MasterState → Option Change → Locking → Type 0
RaisesIn s change Nothing = Unit {0}
RaisesIn s change (Takes put claim) = RisesTo (lock_at s.locks put.instance) put.lock
RaisesIn s change (Waits put) = RisesTo (lock_at s.locks put.instance) put.lock
RaisesIn s change (Leaves leave) = RisesTo (lock_at s.locks leave.instance) leave.turn.lock
RaisesIn s change (Goes instance waiters) = LetsNodeGo change

abbrev pub Raises : MasterState → Effect → Type 0
Raises s effected = RaisesIn s effected.change effected.locking

either : (s : MasterState) (b : Bool) (x y : Effect) → Raises s x → Raises s y → Raises s (cond b x y)
either s true x y h k = h
either s false x y h k = k

found_or : {X : Type 0} (s : MasterState) (f : X → Effect) (o : Option X) (y : Effect) → ((x : X) → Raises s (f x)) → Raises s y → Raises s (option_map_or f o y)
found_or s f None y h k = k
found_or s f (Some x) y h k = h x

-- ---- a create

made_raises : (s : MasterState) (opening : Open) (view : Node) (made : Result Handle Fault) → Raises s (create_made (name_space s) opening view made)
made_raises s opening view (Ok handle) = found_or s (λ (fault : Fault). refused fault) (new_node_fault (name_space s) view) (create_put (name_space s) opening view handle) (λ fault. tt) tt
made_raises s opening view (Err fault) = tt

module _ (s : MasterState) (client number : ℕ) (opening : Open) where
  numbered_raises : (view : Node) → Raises s (create_numbered (name_space s) (caller s client) number opening view)
  numbered_raises view = either s (is_last s.next_instance) (refused faults.Exhausted) (create_made (name_space s) opening view (new_handle (name_space s) (caller s client) number opening view)) tt (made_raises s opening view (new_handle (name_space s) (caller s client) number opening view))

  permitted_raises : (view : Node) → Raises s (create_permitted (name_space s) (caller s client) number opening view)
  permitted_raises view = found_or s (λ (right : Right). refused (faults.Denied right)) (missing_right (name_space s) (caller s client) opening.mode view) (create_numbered (name_space s) (caller s client) number opening view) (λ right. tt) (numbered_raises view)

  in_raises : (create : Create) (above : Node) (kind : Kind) → Raises s (create_in (name_space s) (caller s client) number opening create above kind)
  in_raises create above kinds.File = tt
  in_raises create above kinds.Directory = either s (may (name_space s) (caller s client) above rights.Write) _ (refused (faults.Denied rights.Write)) (permitted_raises (new_node s.next_instance create.node create.life (acls_of above create.acls))) tt

  under_raises : (create : Create) (o : Option Node) → Raises s (create_under (name_space s) (caller s client) number opening create o)
  under_raises create None = tt
  under_raises create (Some above) = in_raises create above above.kind

  over_raises : (disposition : Disposition) (view : Node) → Raises s (create_over (name_space s) (caller s client) number opening disposition view)
  over_raises Must view = tt
  over_raises May view = tt

  create_raises : (create : Create) → Raises s (create_effect (name_space s) (caller s client) number opening create)
  create_raises create = found_or s (λ view. create_over (name_space s) (caller s client) number opening create.disposition view) (get_node s.nodes opening.name) (create_new (name_space s) (caller s client) number opening create) (λ view. over_raises create.disposition view)
      (found_or s (λ parent. create_under (name_space s) (caller s client) number opening create (get_node s.nodes parent)) (parent_of opening.name) (refused faults.NotFound) (λ parent. under_raises create (get_node s.nodes parent)) tt)

  sequenced_raises : (create : Create) (o : Option Fault) → Raises s (create_under_sequencer (name_space s) (caller s client) number opening create o)
  sequenced_raises create (Some fault) = tt
  sequenced_raises create None = found_or s (λ (answer : CallResult). answered answer) (create_fault opening create.node) (create_effect (name_space s) (caller s client) number opening create) (λ answer. tt) (create_raises create)

  open_raises : (sequencer : Option (List ℕ)) (o : Option Create) → Raises s (open_effect (name_space s) (caller s client) number opening sequencer o)
  open_raises sequencer None = tt
  open_raises sequencer (Some create) = either s (is_of_cell (name_space s) opening.name) _ (refused faults.OtherCell) (sequenced_raises create (sequencer_fault (name_space s) sequencer)) tt

-- ---- a node that stands

put_raises : (s : MasterState) (handle : Handle) (present : ℕ) (wanted : Option ℕ) (room : Option Fault) (view : Node) → Raises s (put_at (name_space s) handle present wanted room view)
put_raises s handle present wanted room view =
    either s (generation_fits wanted present) _ (refused (faults.WrongGeneration present))
    (either s (is_last present) (refused faults.Exhausted) _ tt (found_or s (λ (fault : Fault). refused fault) room (changes_to (Put handle.name view) s.next_instance results.Done) (λ fault. tt) tt)) tt

acquired_raises : (s : MasterState) (handle : Handle) (claim : Claim) (room : Option Fault) (o : Result Acquired Fault) → RisesBy (lock_under (name_space s) handle) o → Raises s (acquire_by handle claim room o)
acquired_raises s handle claim (Some fault) (Ok given) h = tt
acquired_raises s handle claim None (Ok (asked.Held lock)) h = h
acquired_raises s handle claim None (Ok (asked.Waits lock)) h = h
acquired_raises s handle claim room (Err fault) h = tt

tried_raises : (s : MasterState) (handle : Handle) (claim : Claim) (room : Option Fault) (o : Result LockState Fault) → tried (lock_under (name_space s) handle) claim s.clock ≡ o → Raises s (try_by handle claim room o)
tried_raises s handle claim (Some fault) (Ok lock) h = tt
tried_raises s handle claim None (Ok lock) h = rises_tried (lock_under (name_space s) handle) lock claim s.clock h
tried_raises s handle claim room (Err fault) h = tt

released_raises : (s : MasterState) (handle : Handle) (o : Result Turn Fault) → RisesIf (lock_under (name_space s) handle) o → Raises s (release_by handle o)
released_raises s handle (Ok turn) h = h
released_raises s handle (Err fault) h = tt

closed_raises : (s : MasterState) (handle : Handle) (o : Option Turn) → RisesWhere (lock_under (name_space s) handle) o → RaisesIn s None (close_by (name_space s) handle o)
closed_raises s handle None h = tt
closed_raises s handle (Some turn) h = h

-- a Close where the node is gone leaves every lock
shut_raises : (s : MasterState) (handle : Handle) (o : Option Node) → RaisesIn s None (close_under (name_space s) handle o)
shut_raises s handle None = tt
shut_raises s handle (Some view) = closed_raises s handle (closed_by (lock_under (name_space s) handle) (owner_of handle)) (rises_closed (lock_under (name_space s) handle) (owner_of handle))

change_raises : (s : MasterState) (handle : Handle) (call : Call) (view : Node) → Raises s (change_at (name_space s) s.clock handle call view)
change_raises s handle (calls.Set bytes content generation) view = put_raises s handle view.content_generation generation (content_fault (name_space s) view content) (with_content view content)
change_raises s handle (calls.SetAcl bytes acls generation) view = put_raises s handle view.acl_generation generation None (with_acls view acls)
change_raises s handle (calls.Delete bytes) view = either s (has_children s.nodes handle.name || is_none (parent_of handle.name)) (refused faults.NotEmpty) (deleted (name_space s) handle) tt tt
change_raises s handle (calls.Acquire bytes mode) view = acquired_raises s handle (claim_of handle mode) (lock_fault (name_space s) handle.client) (acquired (lock_under (name_space s) handle) (claim_of handle mode)) (rises_acquired (lock_under (name_space s) handle) (claim_of handle mode))
change_raises s handle (calls.TryAcquire bytes mode) view = tried_raises s handle (claim_of handle mode) (lock_fault (name_space s) handle.client) (tried (lock_under (name_space s) handle) (claim_of handle mode) s.clock) refl
change_raises s handle (calls.Release bytes) view = released_raises s handle (released (lock_under (name_space s) handle) (owner_of handle)) (rises_released (lock_under (name_space s) handle) (owner_of handle))
change_raises s handle call view = tt

first_raises : (s : MasterState) (handle : Handle) (call : Call) (o : Option CallResult) → Raises s (option_map_or (λ answer. answered answer) o (change_on (name_space s) s.clock handle call))
first_raises s handle call o = found_or s (λ (answer : CallResult). answered answer) o (change_on (name_space s) s.clock handle call) (λ answer. tt)
    (found_or s (λ view. change_at (name_space s) s.clock handle call view) (node_of_handle (name_space s) handle) (refused faults.StaleInstance) (λ view. change_raises s handle call view) tt)

on_raises : (s : MasterState) (handle : Handle) (call : Call) (sequencer : Option (List ℕ)) → Raises s (effect_on (name_space s) s.clock handle call sequencer)
on_raises s handle (calls.Close bytes) sequencer = shut_raises s handle (node_of_handle (name_space s) handle)
on_raises s handle call sequencer = first_raises s handle call (answer_on (name_space s) handle call sequencer)

shown_raises : (s : MasterState) (call : Call) (sequencer : Option (List ℕ)) (o : Option Handle) → Raises s (handle_effect (name_space s) s.clock call sequencer o)
shown_raises s call sequencer None = tt
shown_raises s call sequencer (Some handle) = on_raises s handle call sequencer

pub effect_raises : (s : MasterState) (client number : ℕ) (call : Call) (sequencer : Option (List ℕ)) → Raises s (effect (name_space s) (caller s client) s.clock number call sequencer)
unfolding effect
effect_raises s client number (calls.Open opening) sequencer = open_raises s client number opening sequencer opening.create
effect_raises s client number call sequencer = shown_raises s call sequencer (read_handle s.secret (bytes_of call))

-- What a change does when its turn comes.
use Rattle.std.specs.Prelude.{ℕ, Bool, true, ◌==◌, ◌+◌, ◌-◌, ◌||◌, length, nat_le, List, [], Option, Some, None, Result, Ok, Err, if◌then◌else◌, is_none}
use Rattle.std.specs.Option.{option_map_or, option_or}
use Rattle.names_cell.specs.Text.{parent_of}
use Rattle.node_core.specs.declared.refusals.Fault.{Fault}
use Rattle.node_core.specs.declared.nodes.Node.{Node}
use Rattle.node_core.specs.declared.views.Mod.{Mod}
use Rattle.node_core.specs.declared.views.Mod.TheVariants.{Put, Gone}
use Rattle.node_core.specs.declared.kinds.Kind.{Kind}
use Rattle.node_core.specs.declared.kinds.LockMode.{LockMode}
use Rattle.node_core.specs.declared.kinds.Life.{Life}
use Rattle.node_core.specs.Limits.{number_limit}
use Rattle.node_core.specs.Nodes.{get_node, has_children}
use Rattle.node_core.specs.Room.{content_length, content_bytes, room_fault}
use Rattle.tags_cell.specs.Handles.{read_handle}
use Rattle.tags_cell.specs.declared.handles.Handle.{Handle}
use Rattle.tags_cell.specs.declared.messages.calls.AclNames.{AclNames}
use Rattle.tags_cell.specs.declared.messages.calls.NewNode.{NewNode}
use Rattle.tags_cell.specs.declared.messages.calls.Open.{Open}
use Rattle.tags_cell.specs.declared.messages.calls.Create.{Create}
use Rattle.tags_cell.specs.declared.messages.calls.Disposition.{Disposition}
use Rattle.tags_cell.specs.declared.messages.calls.Disposition.TheVariants.{May, Must}
use Rattle.tags_cell.specs.declared.messages.calls.Call.{Call}
use Rattle.tags_cell.specs.declared.messages.outs.CallResult.{CallResult}
use Rattle.cell_core.specs.declared.effects.Effect.{Effect}
use Rattle.master_parts.specs.declared.pending.Orphan.{Orphan}
use Rattle.cell_core.specs.declared.effects.Locking.{Locking}
use Rattle.cell_core.specs.declared.effects.Locking.TheVariants.{Nothing, Takes, Waits, Leaves, Goes}
use Rattle.lock_core.specs.declared.claims.Claim.{Claim}
use Rattle.lock_core.specs.declared.turns.Turn.{Turn}
use Rattle.lock_core.specs.declared.turns.Acquired.{Acquired}
use Rattle.lock_core.specs.State.{LockState}
use Rattle.lock_core.specs.Locks.{lock_at}
use Rattle.lock_core.specs.Counted.{claim_count}
use Rattle.lock_core.specs.Turns.{tried, acquired, released, closed_by}
use Rattle.master_state.specs.declared.updates.LockPut.{LockPut}
use Rattle.master_parts.specs.Claims.{owner_of, claim_of}
use Rattle.master_state.specs.NameSpace.{NameSpace, Caller}
use Rattle.master_state.specs.Lookups.{may, missing_right, is_of_cell, sequencer_fault, lock_under, holds_lock, node_of_handle, new_handle, open_present, plain_open, opened_answer, opened_note, answer_on}
use Rattle.master_parts.specs.Calls.{create_fault, bytes_of}
use Rattle.master_parts.specs.Keys.{key_of}
use Rattle.node_core.specs.declared.refusals.Fault.TheVariants as faults
use Rattle.node_core.specs.declared.kinds.Kind.TheVariants as kinds
use Rattle.node_core.specs.declared.kinds.Right.TheVariants as rights
use Rattle.tags_cell.specs.declared.messages.calls.NewNode.TheVariants as made
use Rattle.tags_cell.specs.declared.messages.calls.Call.TheVariants as calls
use Rattle.tags_cell.specs.declared.messages.outs.CallResult.TheVariants as results
use Rattle.master_parts.specs.declared.handles.HandleState.{HandleState}
use Rattle.master_parts.specs.declared.handles.HandleState.TheVariants as states
use Rattle.lock_core.specs.declared.turns.Acquired.TheVariants as asked

-- an answer that changes nothing
abbrev pub answered : CallResult → Effect
answered answer = record { note = None; change = None; locking = Nothing; answer = Some answer }

abbrev pub refused : Fault → Effect
refused fault = answered (results.Refused fault)

abbrev pub changes_to : Mod → ℕ → CallResult → Effect
changes_to change next_instance answer = record { note = None; change = Some (record { change = change; next_instance = next_instance }); locking = Nothing; answer = Some answer }

-- a number at its end
abbrev pub is_last : ℕ → Bool
is_last n = nat_le number_limit n

-- ---- room: what a call adds to what a limit counts is tested last, and refused where the limit leaves no room for it

-- one node more, and then the bytes of its content
abbrev pub new_node_fault : NameSpace → Node → Option Fault
new_node_fault space node =
    option_or (room_fault space.limits.max_nodes (length space.nodes) 1) (room_fault space.limits.max_bytes (content_bytes space.nodes) (content_length node))

-- the bytes by which a node's content grows
abbrev pub content_fault : NameSpace → Node → List ℕ → Option Fault
content_fault space node content = room_fault space.limits.max_bytes (content_bytes space.nodes) (length content - content_length node)

-- one lock more that the client holds or waits for
abbrev pub lock_fault : NameSpace → ℕ → Option Fault
lock_fault space client = room_fault space.limits.max_locks (claim_count client space.locks) 1

abbrev pub unless : Option Fault → Effect → Effect
unless room effect = option_map_or (λ fault. refused fault) room effect

-- ---- creates

abbrev pub opened_effect : NameSpace → Result Handle Fault → Effect
opened_effect space opened = record { note = opened_note space opened; change = None; locking = Nothing; answer = Some (opened_answer space opened) }

abbrev pub kind_of : NewNode → Kind
kind_of (made.File content) = kinds.File
kind_of made.Directory = kinds.Directory

-- 1 for a new file, 0 for a directory
abbrev pub first_generation : NewNode → ℕ
first_generation (made.File content) = 1
first_generation made.Directory = 0

abbrev pub content_of : NewNode → List ℕ
content_of (made.File content) = content
content_of made.Directory = []

-- the names that are given, or those of the parent
abbrev pub acls_of : Node → Option AclNames → AclNames
acls_of above (Some acls) = acls
acls_of above None = record { read = above.read; write = above.write; change = above.change }

-- a new node under a directory
abbrev pub new_node : ℕ → NewNode → Life → AclNames → Node
new_node instance node life acls = record {
  kind = kind_of node;
  instance = instance;
  content_generation = first_generation node;
  acl_generation = 1;
  read = acls.read;
  write = acls.write;
  change = acls.change;
  life = life;
  content = content_of node;
}

-- the new node is put, and its handle is open
abbrev pub create_put : NameSpace → Open → Node → Handle → Effect
create_put space opening node handle = record {
  note = opened_note space (Ok handle);
  change = Some (record { change = Put opening.name node; next_instance = space.next_instance + 1 });
  locking = Nothing;
  answer = Some (opened_answer space (Ok handle));
}

abbrev pub create_made : NameSpace → Open → Node → Result Handle Fault → Effect
create_made space opening node (Err fault) = refused fault
create_made space opening node (Ok handle) = unless (new_node_fault space node) (create_put space opening node handle)

abbrev pub create_numbered : NameSpace → Caller → ℕ → Open → Node → Effect
create_numbered space caller number opening node =
    if is_last space.next_instance then refused faults.Exhausted else create_made space opening node (new_handle space caller number opening node)

-- the rights of the mode, on the ACLs of the new node
abbrev pub create_permitted : NameSpace → Caller → ℕ → Open → Node → Effect
create_permitted space caller number opening node =
    option_map_or (λ right. refused (faults.Denied right)) (missing_right space caller opening.mode node) (create_numbered space caller number opening node)

-- write on the directory above comes first
abbrev pub create_in : NameSpace → Caller → ℕ → Open → Create → Node → Kind → Effect
create_in space caller number opening create above kinds.File = refused (faults.WrongKind kinds.File)
create_in space caller number opening create above kinds.Directory =
    if may space caller above rights.Write
    then create_permitted space caller number opening (new_node space.next_instance create.node create.life (acls_of above create.acls))
    else refused (faults.Denied rights.Write)

abbrev pub create_under : NameSpace → Caller → ℕ → Open → Create → Option Node → Effect
create_under space caller number opening create None = refused faults.NotFound
create_under space caller number opening create (Some above) = create_in space caller number opening create above above.kind

abbrev pub create_new : NameSpace → Caller → ℕ → Open → Create → Effect
create_new space caller number opening create =
    option_map_or (λ parent. create_under space caller number opening create (get_node space.nodes parent)) (parent_of opening.name) (refused faults.NotFound)

-- a node of the name is there: it is opened where it may be
abbrev pub create_over : NameSpace → Caller → ℕ → Open → Disposition → Node → Effect
create_over space caller number opening Must node = refused faults.Exists
create_over space caller number opening May node = opened_effect space (open_present space caller number opening node)

abbrev pub create_effect : NameSpace → Caller → ℕ → Open → Create → Effect
create_effect space caller number opening create =
    option_map_or (λ node. create_over space caller number opening create.disposition node) (get_node space.nodes opening.name) (create_new space caller number opening create)

-- its content and its lock-delay are tested again
abbrev pub create_tested : NameSpace → Caller → ℕ → Open → Create → Effect
create_tested space caller number opening create =
    option_map_or (λ answer. answered answer) (create_fault opening create.node) (create_effect space caller number opening create)

-- its sequencer is tested first
abbrev pub create_under_sequencer : NameSpace → Caller → ℕ → Open → Create → Option Fault → Effect
create_under_sequencer space caller number opening create (Some fault) = refused fault
create_under_sequencer space caller number opening create None = create_tested space caller number opening create

-- the tests of a create that comes are made again
abbrev pub create_here : NameSpace → Caller → ℕ → Open → Create → Option (List ℕ) → Effect
create_here space caller number opening create sequencer =
    if is_of_cell space opening.name then create_under_sequencer space caller number opening create (sequencer_fault space sequencer) else refused faults.OtherCell

abbrev pub open_effect : NameSpace → Caller → ℕ → Open → Option (List ℕ) → Option Create → Effect
open_effect space caller number opening sequencer None = opened_effect space (plain_open space caller number opening)
open_effect space caller number opening sequencer (Some create) = create_here space caller number opening create sequencer

-- ---- locks

-- what becomes of the lock of a handle's node
abbrev pub lock_put : Handle → LockState → LockPut
lock_put handle lock = record { name = handle.name; instance = handle.instance; lock = lock }

-- the caller holds the lock
abbrev pub lock_taken : Handle → Claim → LockState → Effect
lock_taken handle claim lock = record { note = None; change = None; locking = Takes (lock_put handle lock) claim; answer = Some results.Done }

-- the caller waits after all others, and is answered when it gets the lock, or can't get it any more
abbrev pub lock_awaited : Handle → LockState → Effect
lock_awaited handle lock = record { note = None; change = None; locking = Waits (lock_put handle lock); answer = None }

-- the caller has left the lock
abbrev pub leaving_by : Handle → Bool → Turn → Locking
leaving_by handle held turn = Leaves (record { name = handle.name; instance = handle.instance; held = held; turn = turn })

abbrev pub acquired_by : Handle → Claim → Acquired → Effect
acquired_by handle claim (asked.Held lock) = lock_taken handle claim lock
acquired_by handle claim (asked.Waits lock) = lock_awaited handle lock

abbrev pub acquire_by : Handle → Claim → Option Fault → Result Acquired Fault → Effect
acquire_by handle claim room (Ok asked) = unless room (acquired_by handle claim asked)
acquire_by handle claim room (Err fault) = refused fault

abbrev pub try_by : Handle → Claim → Option Fault → Result LockState Fault → Effect
try_by handle claim room (Ok lock) = unless room (lock_taken handle claim lock)
try_by handle claim room (Err fault) = refused fault

abbrev pub release_by : Handle → Result Turn Fault → Effect
release_by handle (Ok turn) = record { note = None; change = None; locking = leaving_by handle true turn; answer = Some results.Done }
release_by handle (Err fault) = refused fault

abbrev pub acquire_at : NameSpace → Handle → LockMode → Effect
acquire_at space handle mode = acquire_by handle (claim_of handle mode) (lock_fault space handle.client) (acquired (lock_under space handle) (claim_of handle mode))

-- by the moment that the master was told
abbrev pub try_at : NameSpace → ℕ → Handle → LockMode → Effect
try_at space now handle mode = try_by handle (claim_of handle mode) (lock_fault space handle.client) (tried (lock_under space handle) (claim_of handle mode) now)

abbrev pub release_at : NameSpace → Handle → Effect
release_at space handle = release_by handle (released (lock_under space handle) (owner_of handle))

abbrev pub close_by : NameSpace → Handle → Option Turn → Locking
close_by space handle None = Nothing
close_by space handle (Some turn) = leaving_by handle (holds_lock space handle) turn

-- where its node is gone, so is the lock
abbrev pub close_under : NameSpace → Handle → Option Node → Locking
close_under space handle None = Nothing
close_under space handle (Some node) = close_by space handle (closed_by (lock_under space handle) (owner_of handle))

-- one that this epoch gave is forgotten: of no use unless it is noted as open
abbrev pub closed_state : NameSpace → Handle → Option HandleState
closed_state space handle = if handle.epoch == space.epoch then None else Some states.Closed

-- a handle that is closed lets its lock go, or waits for it no longer
abbrev pub close_at : NameSpace → Handle → Effect
close_at space handle = record {
  note = Some (record { key = key_of handle; state = closed_state space handle });
  change = None;
  locking = close_under space handle (node_of_handle space handle);
  answer = Some results.Closed;
}

-- ---- writes

-- the generation that a call names, if it names one, has to be the present one
abbrev pub generation_fits : Option ℕ → ℕ → Bool
generation_fits None present = true
generation_fits (Some wanted) present = wanted == present

abbrev pub with_content : Node → List ℕ → Node
with_content node content = record node { content_generation = node.content_generation + 1; content = content }

abbrev pub with_acls : Node → AclNames → Node
with_acls node acls = record node { acl_generation = node.acl_generation + 1; read = acls.read; write = acls.write; change = acls.change }

abbrev pub put_at : NameSpace → Handle → ℕ → Option ℕ → Option Fault → Node → Effect
put_at space handle present wanted room node =
    if generation_fits wanted present
    then (if is_last present then refused faults.Exhausted else unless room (changes_to (Put handle.name node) space.next_instance results.Done))
    else refused (faults.WrongGeneration present)

-- the node goes, and its lock with it
abbrev pub deleted : NameSpace → Handle → Effect
deleted space handle = record {
  note = None;
  change = Some (record { change = Gone handle.name; next_instance = space.next_instance });
  locking = Goes handle.instance (lock_under space handle).waiters;
  answer = Some results.Done;
}

-- the root and a directory with children stay
abbrev pub delete_at : NameSpace → Handle → Effect
delete_at space handle =
    if has_children space.nodes handle.name || is_none (parent_of handle.name) then refused faults.NotEmpty
    else deleted space handle

abbrev pub change_at : NameSpace → ℕ → Handle → Call → Node → Effect
change_at space now handle (calls.Set bytes content generation) node = put_at space handle node.content_generation generation (content_fault space node content) (with_content node content)
change_at space now handle (calls.SetAcl bytes acls generation) node = put_at space handle node.acl_generation generation None (with_acls node acls)
change_at space now handle (calls.Delete bytes) node = delete_at space handle
change_at space now handle (calls.Acquire bytes mode) node = acquire_at space handle mode
change_at space now handle (calls.TryAcquire bytes mode) node = try_at space now handle mode
change_at space now handle (calls.Release bytes) node = release_at space handle
change_at space now handle (calls.Open opening) node = refused faults.BadHandle
change_at space now handle (calls.Close bytes) node = refused faults.BadHandle
change_at space now handle (calls.Read bytes) node = refused faults.BadHandle
change_at space now handle (calls.Stat bytes) node = refused faults.BadHandle
change_at space now handle (calls.List bytes) node = refused faults.BadHandle
change_at space now handle (calls.GetSequencer bytes) node = refused faults.BadHandle
change_at space now handle (calls.SetSequencer bytes) node = refused faults.BadHandle
change_at space now handle (calls.CheckSequencer bytes) node = refused faults.BadHandle
change_at space now handle calls.Leave node = refused faults.BadHandle

abbrev pub change_on : NameSpace → ℕ → Handle → Call → Effect
change_on space now handle call = option_map_or (λ node. change_at space now handle call node) (node_of_handle space handle) (refused faults.StaleInstance)

-- ---- by the cell itself

-- an ephemeral node that nobody holds open goes as one that is deleted, and nobody asked for it
abbrev pub gone_by_itself : NameSpace → Orphan → Effect
gone_by_itself space idle = record {
  note = None;
  change = Some (record { change = Gone idle.name; next_instance = space.next_instance });
  locking = Goes idle.instance (lock_at space.locks idle.instance).waiters;
  answer = None;
}

-- ---- by the call

-- what would be answered at once is answered now too: so its sequencer is tested again
abbrev pub effect_on : NameSpace → ℕ → Handle → Call → Option (List ℕ) → Effect
effect_on space now handle (calls.Close bytes) sequencer = close_at space handle
effect_on space now handle call sequencer = option_map_or (λ answer. answered answer) (answer_on space handle call sequencer) (change_on space now handle call)

abbrev pub handle_effect : NameSpace → ℕ → Call → Option (List ℕ) → Option Handle → Effect
handle_effect space now call sequencer None = refused faults.BadHandle
handle_effect space now call sequencer (Some handle) = effect_on space now handle call sequencer

-- what is noted of a handle, the change of the map and the next instance after it, if there is one, what becomes of a lock, and the answer, if it has one yet
unfoldable pub effect : NameSpace → Caller → ℕ → ℕ → Call → Option (List ℕ) → Effect
effect space caller now number (calls.Open opening) sequencer = open_effect space caller number opening sequencer opening.create
effect space caller now number call sequencer = handle_effect space now call sequencer (read_handle space.secret (bytes_of call))

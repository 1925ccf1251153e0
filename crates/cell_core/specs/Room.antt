-- What the limits of a cell do to its calls: they refuse what they leave no room for, and nothing else.
use Rattle.std.specs.Prelude.{◌≡◌, ℕ, ◌-◌, ◌≤◌, ◌⊎◌, false, List, length, Option, Some, None, if◌then◌else◌, is_none}
use Rattle.std.specs.Option.{option_map_or}
use Rattle.std.specs.List.Sorted.{IsStrictlySortedBy}
use Rattle.std.specs.Map.{keys_of, remove_entry}
use Rattle.std.specs.Cmp.Lexicographic.{slice_cmp}
use Rattle.std.specs.Ordering.{nat_cmp}
use Rattle.std.specs.BTreeMap.{is_at}
use Rattle.node_core.specs.Nodes.{Nodes, get_node, changed}
use Rattle.node_core.specs.Room.{content_length, content_bytes, has_room}
use Rattle.node_core.specs.declared.refusals.Fault.TheVariants as faults
use Rattle.tags_cell.specs.Handles.{read_handle}
use Rattle.tags_cell.specs.declared.handles.Handle.{Handle}
use Rattle.tags_cell.specs.declared.messages.calls.Call.{Call}
use Rattle.tags_cell.specs.declared.messages.calls.Call.TheVariants as calls
use Rattle.lock_core.specs.Counted.{claim_count}
use Rattle.lock_core.specs.Locks.{LockTable, with_lock}
use Rattle.rows_cell.specs.Settings.{no_limits}
use Rattle.master_parts.specs.Calls.{bytes_of}
use Rattle.master_state.specs.declared.updates.Change.{Change}
use Rattle.master_state.specs.NameSpace.{NameSpace, name_space, caller}
use Rattle.master_state.specs.Lookups.{node_of_handle}
use Rattle.master_state.specs.State.{MasterState}
use Rattle.cell_core.specs.declared.effects.Effect.{Effect}
use Rattle.cell_core.specs.declared.effects.Locking.{Locking}
use Rattle.cell_core.specs.declared.effects.Locking.TheVariants.{Nothing, Takes, Waits, Leaves, Goes}
use Rattle.cell_core.specs.Effect.{refused, content_of, effect}

-- ---- what a call adds to what limits count

-- a node, where there is none of the name
abbrev pub nodes_added : NameSpace → Call → ℕ
nodes_added space (calls.Open opening) = option_map_or (λ create. if is_none (get_node space.nodes opening.name) then 1 else 0) opening.create 0
nodes_added space call = 0

-- a handle's node gets this content
abbrev pub growth_on : NameSpace → List ℕ → Option Handle → ℕ
growth_on space content None = 0
growth_on space content (Some handle) = option_map_or (λ node. length content - content_length node) (node_of_handle space handle) 0

-- the bytes of a new node's content, or those by which a content grows
abbrev pub bytes_added : NameSpace → Call → ℕ
bytes_added space (calls.Open opening) = option_map_or (λ create. length (content_of create.node)) opening.create 0
bytes_added space (calls.Set bytes content generation) = growth_on space content (read_handle space.secret bytes)
bytes_added space call = 0

-- a lock that a client holds or waits for
abbrev pub locks_added : Call → ℕ
locks_added (calls.Acquire bytes mode) = 1
locks_added (calls.TryAcquire bytes mode) = 1
locks_added call = 0

-- ---- a limit refuses what it leaves no room for, and changes nothing else

abbrev pub unlimited : NameSpace → NameSpace
unlimited space = record space { limits = no_limits }

-- what is done is what would be without limits, or the refusal by one that leaves no room for what the call adds
pub data IsLimited (space : NameSpace) (call : Call) (done free : Effect) : Type 0 where
  Free : done ≡ free → IsLimited space call done free
  NodesFull : (limit : ℕ) → space.limits.max_nodes ≡ Some limit → has_room limit (length space.nodes) (nodes_added space call) ≡ false → done ≡ refused (faults.NoRoom limit) → IsLimited space call done free
  BytesFull : (limit : ℕ) → space.limits.max_bytes ≡ Some limit → has_room limit (content_bytes space.nodes) (bytes_added space call) ≡ false → done ≡ refused (faults.NoRoom limit) → IsLimited space call done free
  LocksFull : (limit : ℕ) (handle : Handle) → space.limits.max_locks ≡ Some limit → read_handle space.secret (bytes_of call) ≡ Some handle → has_room limit (claim_count handle.client space.locks) (locks_added call) ≡ false
      → done ≡ refused (faults.NoRoom limit) → IsLimited space call done free

-- so nobody's call is refused by a limit of what it doesn't add to
abbrev pub LimitsOnlyRefuse : Type 0
LimitsOnlyRefuse =
    (s : MasterState) (client number : ℕ) (call : Call) (sequencer : Option (List ℕ))
    → IsLimited (name_space s) call (effect (name_space s) (caller s client) s.clock number call sequencer) (effect (unlimited (name_space s)) (caller s client) s.clock number call sequencer)

-- ---- what is within the limits stays so

-- the map after a change
abbrev pub nodes_after : Nodes → Option Change → Nodes
nodes_after nodes None = nodes
nodes_after nodes (Some change) = changed nodes change.change

-- the locks after what becomes of one
abbrev pub locks_after : LockTable → Locking → LockTable
locks_after locks Nothing = locks
locks_after locks (Takes put claim) = with_lock locks put.instance put.lock
locks_after locks (Waits put) = with_lock locks put.instance put.lock
locks_after locks (Leaves leave) = with_lock locks leave.instance leave.turn.lock
locks_after locks (Goes instance waiters) = remove_entry (is_at (nat_cmp instance)) locks

-- within the limit, or no more than there was
abbrev pub IsWithin : Option ℕ → ℕ → ℕ → Type 0
IsWithin None before after = Unit {0}
IsWithin (Some limit) before after = (after ≤ limit) ⊎ (after ≤ before)

pub record KeepsWithin (space : NameSpace) (done : Effect) : Type 0 where
  pub nodes : IsWithin space.limits.max_nodes (length space.nodes) (length (nodes_after space.nodes done.change))
  pub bytes : IsWithin space.limits.max_bytes (content_bytes space.nodes) (content_bytes (nodes_after space.nodes done.change))
  pub locks : (client : ℕ) → IsWithin space.limits.max_locks (claim_count client space.locks) (claim_count client (locks_after space.locks done.locking))

-- so a cell that began within its limits never holds more, nor a session more locks, and what began above them doesn't grow
abbrev pub LimitsHold : Type 0
LimitsHold =
    (s : MasterState) (client number : ℕ) (call : Call) (sequencer : Option (List ℕ)) → IsStrictlySortedBy (slice_cmp nat_cmp) (keys_of s.nodes) → IsStrictlySortedBy nat_cmp (keys_of s.locks)
    → KeepsWithin (name_space s) (effect (name_space s) (caller s client) s.clock number call sequencer)

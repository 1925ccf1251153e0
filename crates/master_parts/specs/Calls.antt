-- What a call shows, and why it is refused by itself.
use Rattle.std.specs.Prelude.{ℕ, Bool, nat_lt, List, [], length, Option, Some, None, if◌then◌else◌}
use Rattle.std.specs.Option.{option_map_or}
use Rattle.node_core.specs.declared.kinds.Kind.{Kind}
use Rattle.node_core.specs.declared.kinds.Right.{Right}
use Rattle.node_core.specs.declared.stats.Stat.{Stat}
use Rattle.node_core.specs.Limits.{content_limit, lock_delay_limit}
use Rattle.tags_cell.specs.Modes.{has_right}
use Rattle.tags_cell.specs.declared.handles.Handle.{Handle}
use Rattle.tags_cell.specs.declared.messages.calls.Open.{Open}
use Rattle.tags_cell.specs.declared.messages.calls.NewNode.{NewNode}
use Rattle.tags_cell.specs.declared.messages.calls.Call.{Call}
use Rattle.tags_cell.specs.declared.messages.outs.CallResult.{CallResult}
use Rattle.node_core.specs.declared.refusals.Fault.TheVariants as faults
use Rattle.node_core.specs.declared.kinds.Kind.TheVariants as kinds
use Rattle.tags_cell.specs.declared.messages.calls.NewNode.TheVariants as made
use Rattle.tags_cell.specs.declared.messages.calls.Call.TheVariants as calls
use Rattle.tags_cell.specs.declared.messages.outs.CallResult.TheVariants as results

-- a lock-delay above its limit
abbrev pub is_too_long : ℕ → Bool
is_too_long delay = nat_lt lock_delay_limit delay

-- a content above its limit
abbrev pub content_fault : List ℕ → Option CallResult
content_fault content = if nat_lt content_limit (length content) then Some (results.Refused faults.TooLarge) else None

-- a new node
abbrev pub node_fault : NewNode → Option CallResult
node_fault (made.File content) = content_fault content
node_fault made.Directory = None

abbrev pub delay_fault : ℕ → Option CallResult
delay_fault delay = if is_too_long delay then Some (results.Refused faults.DelayTooLong) else None

-- why a node isn't made: for its content, and then for the lock-delay of its handle
abbrev pub create_fault : Open → NewNode → Option CallResult
create_fault opening node = option_map_or (λ answer. Some answer) (node_fault node) (delay_fault opening.delay)

-- only a file is written
abbrev pub write_fault : Kind → List ℕ → Option CallResult
write_fault kinds.Directory content = Some (results.Refused (faults.WrongKind kinds.Directory))
write_fault kinds.File content = content_fault content

-- the handle has to be opened for the right
abbrev pub needing : Handle → Right → Option CallResult → Option CallResult
needing handle right answer = if has_right handle.mode right then answer else Some (results.Refused (faults.Denied right))

-- the bytes that a call on a node shows
abbrev pub bytes_of : Call → List ℕ
bytes_of (calls.Open opening) = []
bytes_of (calls.Close bytes) = bytes
bytes_of (calls.Read bytes) = bytes
bytes_of (calls.Stat bytes) = bytes
bytes_of (calls.List bytes) = bytes
bytes_of (calls.Set bytes content generation) = bytes
bytes_of (calls.SetAcl bytes acls generation) = bytes
bytes_of (calls.Delete bytes) = bytes
bytes_of (calls.Acquire bytes mode) = bytes
bytes_of (calls.TryAcquire bytes mode) = bytes
bytes_of (calls.Release bytes) = bytes
bytes_of (calls.GetSequencer bytes) = bytes
bytes_of (calls.SetSequencer bytes) = bytes
bytes_of (calls.CheckSequencer bytes) = []
bytes_of calls.Leave = []

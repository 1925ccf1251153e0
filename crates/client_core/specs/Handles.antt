-- A client's handles by its own numbers for them.
use Rattle.std.specs.Prelude.{ℕ, ◌+◌, nat_lt, Bool, true, List, Option, Some, None, Result, Ok, Err, if◌then◌else◌}
use Rattle.std.specs.Map.{lookup, set_value}
use Rattle.std.specs.BTreeMap.{is_at, insert_entry}
use Rattle.std.specs.Ordering.{nat_cmp}
use Rattle.cache_core.specs.Kept.{with_kept}
use Rattle.cache_core.specs.declared.kept.SharedHandle.{SharedHandle}
use Rattle.node_core.specs.Limits.{number_end}
use Rattle.node_core.specs.declared.refusals.Fault.{Fault}
use Rattle.node_core.specs.declared.refusals.Fault.TheVariants as faults
use Rattle.tags_cell.specs.declared.messages.calls.Open.{Open}
use Rattle.tags_cell.specs.declared.messages.outs.CallResult.{CallResult}
use Rattle.tags_cell.specs.declared.messages.outs.CallResult.TheVariants as results
use Rattle.tags_cell.specs.declared.messages.outs.NewHandle.{NewHandle}
use Rattle.client_core.specs.declared.parts.handles.ClientHandle.{ClientHandle}
use Rattle.client_core.specs.Opens.{is_shareable, kept_handle}

-- the handle that the client has under a number
abbrev pub handle_of : List (ℕ × ClientHandle) → ℕ → Option ClientHandle
handle_of handles number = lookup (is_at (nat_cmp number)) handles

-- an open handle that is not poisoned
abbrev pub usable_handle : Option ClientHandle → Result ClientHandle Fault
usable_handle None = Err faults.BadHandle
usable_handle (Some handle) = if handle.poisoned then Err faults.Poisoned else Ok handle

-- a handle wants a number, above the newest that was given out
abbrev pub has_number : ℕ → CallResult → Bool
has_number opened (results.Opened handle) = nat_lt (opened + 1) number_end
has_number opened _ = true

-- the calls on this handle are under the sequencer from here on, if it is still open
abbrev pub put_under : List (ℕ × ClientHandle) → ℕ → Option (List ℕ) → Option ClientHandle → List (ℕ × ClientHandle)
put_under handles number sequencer None = handles
put_under handles number sequencer (Some handle) = set_value (is_at (nat_cmp number)) handles (record handle { sequencer = sequencer })

-- the handles after the outstanding call, if it was an Open
abbrev pub handles_behind : List (ℕ × ClientHandle) → ℕ → NewHandle → Option Open → List (ℕ × ClientHandle)
handles_behind handles number handle None = handles
handles_behind handles number handle (Some opening) = insert_entry nat_cmp handles number (kept_handle handle opening (is_shareable handle opening))

-- a handle that may be shared is kept
abbrev pub kept_behind : List (SharedHandle NewHandle) → NewHandle → Option Open → List (SharedHandle NewHandle)
kept_behind kept handle None = kept
kept_behind kept handle (Some opening) =
    if is_shareable handle opening then with_kept kept (record { name = opening.name; instance = handle.instance; handle = handle }) else kept

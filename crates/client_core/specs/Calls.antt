-- The calls of a client, as they are sent.
use Rattle.std.specs.Prelude.{ℕ, List}
use Rattle.tags_cell.specs.declared.messages.calls.Call.{Call}
use Rattle.tags_cell.specs.declared.messages.calls.Call.TheVariants as calls
use Rattle.client_core.specs.declared.parts.asks.NodeCall.{NodeCall}
use Rattle.client_core.specs.declared.parts.asks.NodeCall.TheVariants as node_calls

-- the call on a handle's node, with the bytes that the master gave for the handle
abbrev pub call_on : List ℕ → NodeCall → Call
call_on bytes node_calls.Read = calls.Read bytes
call_on bytes node_calls.Stat = calls.Stat bytes
call_on bytes node_calls.List = calls.List bytes
call_on bytes (node_calls.Set content generation) = calls.Set bytes content generation
call_on bytes (node_calls.SetAcl acls generation) = calls.SetAcl bytes acls generation
call_on bytes node_calls.Delete = calls.Delete bytes
call_on bytes (node_calls.Acquire mode) = calls.Acquire bytes mode
call_on bytes (node_calls.TryAcquire mode) = calls.TryAcquire bytes mode
call_on bytes node_calls.Release = calls.Release bytes
call_on bytes node_calls.GetSequencer = calls.GetSequencer bytes

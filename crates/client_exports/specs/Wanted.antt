-- The call that a holder asks for by the bytes of a call's message. In these a handle is the client's own number for it.
use Rattle.std.specs.Prelude.{ℕ, ◌==◌, List, length, take, Option, Some, None, if◌then◌else◌}
use Rattle.std.specs.Int.{w64, from_be_bytes}
use Rattle.std.specs.Option.{option_map}
use Rattle.tags_cell.specs.declared.messages.calls.Call.{Call}
use Rattle.tags_cell.specs.declared.messages.calls.Call.TheVariants as calls
use Rattle.tags_cell.specs.declared.messages.requests.Request.{Request}
use Rattle.tags_cell.specs.declared.messages.requests.Request.TheVariants as requests
use Rattle.client_core.specs.declared.parts.asks.Ask.{Ask}
use Rattle.client_core.specs.declared.parts.asks.Ask.TheVariants as asks
use Rattle.client_core.specs.declared.parts.asks.NodeCall.{NodeCall}
use Rattle.client_core.specs.declared.parts.asks.NodeCall.TheVariants as nodes

-- eight bytes, the highest first
abbrev pub number_in : List ℕ → Option ℕ
number_in bytes = if length bytes == 8 then Some (from_be_bytes w64 (take 8 bytes)) else None

abbrev pub node_ask : List ℕ → NodeCall → Option Ask
node_ask handle call = option_map (λ number. asks.Node number call) (number_in handle)

-- the sequencer that is to be set stands in the message
abbrev pub sequencer_ask : List ℕ → Option (List ℕ) → Option Ask
sequencer_ask handle None = None
sequencer_ask handle (Some sequencer) = option_map (λ number. asks.SetSequencer number sequencer) (number_in handle)

abbrev pub call_ask : Call → Option (List ℕ) → Option Ask
call_ask (calls.Open opening) sequencer = Some (asks.Open opening)
call_ask (calls.Close handle) sequencer = option_map asks.Close (number_in handle)
call_ask (calls.Read handle) sequencer = node_ask handle nodes.Read
call_ask (calls.Stat handle) sequencer = node_ask handle nodes.Stat
call_ask (calls.List handle) sequencer = node_ask handle nodes.List
call_ask (calls.Set handle content generation) sequencer = node_ask handle (nodes.Set content generation)
call_ask (calls.SetAcl handle acls generation) sequencer = node_ask handle (nodes.SetAcl acls generation)
call_ask (calls.Delete handle) sequencer = node_ask handle nodes.Delete
call_ask (calls.Acquire handle mode) sequencer = node_ask handle (nodes.Acquire mode)
call_ask (calls.TryAcquire handle mode) sequencer = node_ask handle (nodes.TryAcquire mode)
call_ask (calls.Release handle) sequencer = node_ask handle nodes.Release
call_ask (calls.GetSequencer handle) sequencer = node_ask handle nodes.GetSequencer
call_ask (calls.SetSequencer handle) sequencer = sequencer_ask handle sequencer
call_ask (calls.CheckSequencer bytes) sequencer = Some (asks.CheckSequencer bytes)
call_ask calls.Leave sequencer = Some asks.Leave

-- the client puts its own number, its epoch and the call's number, whatever stands in the message
abbrev pub request_ask : Request → Option Ask
request_ask (requests.Start message) = None
request_ask (requests.Beat message) = None
request_ask (requests.Call message) = call_ask message.call message.sequencer

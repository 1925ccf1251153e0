-- The messages that were sent.
use Rattle.std.specs.Prelude.{ℕ, ◌-◌, ◌==◌, ◌&&◌, List, [], ◌∷◌, Option, Some, None, if◌then◌else◌}
use Rattle.std.specs.Option.{option_map_or}
use Rattle.std.specs.List.{slice_get}
use Rattle.tags_cell.specs.declared.messages.requests.Request.{Request}
use Rattle.tags_cell.specs.declared.messages.requests.Request.TheVariants as requests
use Rattle.tags_cell.specs.declared.messages.requests.CallMessage.{CallMessage}
use Rattle.tags_cell.specs.declared.messages.outs.Out.{Out}
use Rattle.world_steps.specs.declared.mail.Message.{Message}
use Rattle.world_steps.specs.declared.mail.Message.TheVariants as messages

-- the message of a number; they are numbered from 1
abbrev pub message_at : List Message → ℕ → Option Message
message_at sent number = if number == 0 then None else slice_get sent (number - 1)

abbrev pub as_request : Message → Option Request
as_request (messages.ToMaster request) = Some request
as_request (messages.ToClient out) = None

abbrev pub as_out : Message → Option Out
as_out (messages.ToMaster request) = None
as_out (messages.ToClient out) = Some out

-- the request of a number, where the message of that number is one
abbrev pub request_at : List Message → ℕ → Option Request
request_at sent number = option_map_or as_request (message_at sent number) None

-- the message to a client of a number, where the message of that number is one
abbrev pub out_at : List Message → ℕ → Option Out
out_at sent number = option_map_or as_out (message_at sent number) None

-- ---- calls

abbrev pub put_request : ℕ → ℕ → Request → Option CallMessage → Option CallMessage
put_request client number (requests.Start start) later = later
put_request client number (requests.Beat beat) later = later
put_request client number (requests.Call call) later = if call.client == client && call.number == number then Some call else later

abbrev pub put_call : ℕ → ℕ → Message → Option CallMessage → Option CallMessage
put_call client number (messages.ToMaster request) later = put_request client number request later
put_call client number (messages.ToClient out) later = later

-- the call that a client sent under a number: the first of that client and number
abbrev pub call_of : List Message → ℕ → ℕ → Option CallMessage
call_of [] client number = None
call_of (message ∷ later) client number = put_call client number message (call_of later client number)

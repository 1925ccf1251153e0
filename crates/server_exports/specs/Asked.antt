-- A client's message, by its parts.
use Rattle.std.specs.Prelude.{ℕ, ◌+◌, List, [], length, Option, Some, None}
use Rattle.tags_cell.specs.declared.messages.calls.NewNode.{NewNode}
use Rattle.tags_cell.specs.declared.messages.calls.NewNode.TheVariants as nodes
use Rattle.tags_cell.specs.declared.messages.calls.Create.{Create}
use Rattle.tags_cell.specs.declared.messages.calls.Call.{Call}
use Rattle.tags_cell.specs.declared.messages.calls.Call.TheVariants as calls
use Rattle.tags_cell.specs.declared.messages.requests.Request.{Request}
use Rattle.tags_cell.specs.declared.messages.requests.Request.TheVariants as requests
use Rattle.codec.specs.Calls.{call_kind, call_place}
use Rattle.codec.specs.Requests.{request_kind, request_place}
use Rattle.master_parts.specs.Calls.{bytes_of}
use Rattle.server_exports.specs.declared.asked.RequestParts.{RequestParts}
use Rattle.server_exports.specs.Shown.{shown_instance, shown_name}

-- which message it is: one above the byte of its kind
abbrev pub request_number : Request → ℕ
request_number message = request_place (request_kind message) + 1

-- which call it is: one above the byte of its kind
abbrev pub call_number : Call → ℕ
call_number call = call_place (call_kind call) + 1

abbrev pub node_content : NewNode → List ℕ
node_content (nodes.File content) = content
node_content nodes.Directory = []

abbrev pub made_content : Option Create → List ℕ
made_content None = []
made_content (Some create) = node_content create.node

-- the content that it brings
abbrev pub call_content : Call → List ℕ
call_content (calls.Open o) = made_content o.create
call_content (calls.Set handle content generation) = content
call_content call = []

abbrev pub is_there : Option Create → ℕ
is_there None = 0
is_there (Some create) = 1

-- whether it makes a node where none is
abbrev pub call_makes : Call → ℕ
call_makes (calls.Open o) = is_there o.create
call_makes call = 0

-- the name that it opens, or that its handle shows
abbrev pub call_name : Call → List ℕ
call_name (calls.Open o) = o.name
call_name call = shown_name (bytes_of call)

-- of a Start its principal
abbrev pub asked_name : Request → List ℕ
asked_name (requests.Start message) = message.principal
asked_name (requests.Beat message) = []
asked_name (requests.Call message) = call_name message.call

abbrev pub asked_parts : Request → RequestParts
asked_parts (requests.Start message) = record {
  what = request_number (requests.Start message);
  call = 0;
  client = message.client;
  epoch = 0;
  number = message.number;
  makes = 0;
  instance = 0;
  length = 0;
  name_length = length message.principal;
}
asked_parts (requests.Beat message) = record {
  what = request_number (requests.Beat message);
  call = 0;
  client = message.client;
  epoch = message.epoch;
  number = message.number;
  makes = 0;
  instance = 0;
  length = 0;
  name_length = 0;
}
asked_parts (requests.Call message) = record {
  what = request_number (requests.Call message);
  call = call_number message.call;
  client = message.client;
  epoch = message.epoch;
  number = message.number;
  makes = call_makes message.call;
  instance = shown_instance (bytes_of message.call);
  length = length (call_content message.call);
  name_length = length (call_name message.call);
}

-- What a trace tells of messages.
use Rattle.std.specs.Prelude.{ℕ, List, ◌++◌, codes, decimal}
use Rattle.tags_cell.specs.declared.messages.calls.Call.{Call}
use Rattle.tags_cell.specs.declared.messages.calls.Call.TheVariants as calls
use Rattle.tags_cell.specs.declared.messages.requests.Request.{Request}
use Rattle.tags_cell.specs.declared.messages.requests.Request.TheVariants as requests
use Rattle.tags_cell.specs.declared.messages.outs.Out.{Out}
use Rattle.tags_cell.specs.declared.messages.outs.Out.TheVariants as outs
use Rattle.tags_cell.specs.Messages.{request_client, out_client}
use Rattle.world_steps.specs.declared.mail.Message.{Message}
use Rattle.world_steps.specs.declared.mail.Message.TheVariants.{ToMaster, ToClient}

-- by the word of a script that asks for it
abbrev pub call_kind : Call → List ℕ
call_kind (calls.Open opening) = codes "Call open"
call_kind (calls.Close handle) = codes "Call close"
call_kind (calls.Read handle) = codes "Call read"
call_kind (calls.Stat handle) = codes "Call stat"
call_kind (calls.List handle) = codes "Call list"
call_kind (calls.Set handle content generation) = codes "Call set"
call_kind (calls.SetAcl handle acls generation) = codes "Call acl"
call_kind (calls.Delete handle) = codes "Call delete"
call_kind (calls.Acquire handle mode) = codes "Call acquire"
call_kind (calls.TryAcquire handle mode) = codes "Call try"
call_kind (calls.Release handle) = codes "Call release"
call_kind (calls.GetSequencer handle) = codes "Call getseq"
call_kind (calls.SetSequencer handle) = codes "Call setseq"
call_kind (calls.CheckSequencer bytes) = codes "Call checkseq"
call_kind calls.Leave = codes "Call leave"

abbrev pub request_kind : Request → List ℕ
request_kind (requests.Start message) = codes "Start"
request_kind (requests.Beat message) = codes "Beat"
request_kind (requests.Call message) = call_kind message.call

abbrev pub out_kind : Out → List ℕ
out_kind (outs.Started message) = codes "Started"
out_kind (outs.Alive message) = codes "Alive"
out_kind (outs.Reply message) = codes "Reply"
out_kind (outs.Refused message) = codes "Refused"

-- from whom to whom, and its kind
abbrev pub request_text : ℕ → Request → List ℕ
request_text number request =
    codes "message " ++ (decimal number ++ (codes " client " ++ (decimal (request_client request) ++ (codes " -> master " ++ (request_kind request ++ codes "\n")))))

abbrev pub out_text : ℕ → Out → List ℕ
out_text number out =
    codes "message " ++ (decimal number ++ (codes " master -> client " ++ (decimal (out_client out) ++ (codes " " ++ (out_kind out ++ codes "\n")))))

-- the line of a message with this number
abbrev pub message_text : ℕ → Message → List ℕ
message_text number (ToMaster request) = request_text number request
message_text number (ToClient out) = out_text number out

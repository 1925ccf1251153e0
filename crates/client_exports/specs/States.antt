-- What a holder has of a client.
use Rattle.std.specs.Prelude.{List, [], Option, None}
use Rattle.node_core.specs.declared.lines.Line.{Line}
use Rattle.tags_cell.specs.declared.messages.requests.Request.{Request}
use Rattle.client_core.specs.State.{ClientState}

pub record HeldState : Type 0 where
  pub client : ClientState
  -- the message that the last step gave to be sent
  pub request : Option Request
  -- what the last step printed
  pub lines : List Line

-- no step was made yet
abbrev pub new_held : ClientState → HeldState
new_held client = record { client = client; request = None; lines = [] }
